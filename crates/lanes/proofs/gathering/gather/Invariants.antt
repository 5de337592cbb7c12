use Rattle.std.proofs.Common.{◌≡◌, vec_len}
use Rattle.ruled_lanes.specs.FanEnds.{gathered, TakesFromSameFan}
use Rattle.lanes.specs.Notes.{notes}
use Rattle.lanes.specs.Fans.{untagged, AreStops}
use Rattle.lanes.proofs.gathering.gather.Given as goal

abbrev pub invariant-loop : goal.invariant-loop
invariant-loop g l = record {
  lanes : vec_len l.stops ≡ l.fn.lanes;
  fan : TakesFromSameFan l.fn.gatherer l.gatherer;
  stops : AreStops g.E.Numbered.about (gathered l.gatherer) l.stops.items;
  told : g.C.Consumer.holds l.consumer (notes g.E.Numbered.about (untagged (gathered l.gatherer)));
  stays : g.C.Consumer.stays l.initial.consumer l.consumer;
}
