use Rattle.std.proofs.Common.{◌≡◌, vec_len}
use Rattle.least_length.proofs.pulling.Pulling.begin.Given as goal

abbrev pub invariant-loop-segment : goal.invariant-loop-segment
invariant-loop-segment l = record {
  count : vec_len l.self.coordinates ≡ l.segment-index;
  same : l.self.sight_lists.sights ≡ l.initial.self.sight_lists.sights;
}
