use Rattle.std.proofs.Common.{◌≡◌}
use Rattle.visibility.proofs.shortening.Shortening.list_wires.Given as goal

abbrev pub invariant-loop-segment : goal.invariant-loop-segment
invariant-loop-segment l = record {
  places : l.self.places ≡ l.initial.self.places;
  segments : l.self.segments ≡ l.initial.self.segments;
}
