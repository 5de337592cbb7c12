use Rattle.std.proofs.Common.{◌≡◌, ◌≤◌, length, vec_len}
use Rattle.least_length.specs.Searching.{IsReady}
use Rattle.least_length.proofs.pulling.Pulling.search_weights.Given as goal

abbrev pub invariant-loop-root : goal.invariant-loop-root
invariant-loop-root l = record {
  ready : IsReady l.self;
  looks : l.looks ≤ l.initial.looks;
  count : vec_len l.self.coordinates ≡ length l.segments;
}
