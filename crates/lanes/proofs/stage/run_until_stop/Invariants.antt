use Rattle.std.proofs.Common.{◌≡◌, []}
use Rattle.ruled_lanes.specs.LinkEnds.{taken, TakesFromSame}
use Rattle.lanes.specs.Notes.{notes, GoOn}
use Rattle.lanes.proofs.stage.run_until_stop.Given as goal

abbrev pub invariant-loop : goal.invariant-loop
invariant-loop g l = record {
  from_same : TakesFromSame l.fn.taker l.taker;
  stays : g.O.Outlet.stays l.initial.to l.to;
  same : g.O.Outlet.told l.to ≡ notes g.A.Numbered.about (taken l.taker);
  none : l.running.filling.items.items ≡ [];
  going : GoOn (g.O.Outlet.told l.to);
}
