use Rattle.std.proofs.Common.{◌≡◌, ◌≤◌, ◌<◌, ◌+◌, ℕ}
use Rattle.std.specs.Prelude.{slice_index}
use Rattle.least_length.proofs.least.raise_frontier.Given as goal

abbrev pub invariant-loop-level : goal.invariant-loop-level
invariant-loop-level l = record {
  passed : (k : ℕ) → l.fn.segment.low ≤ k → k < l.level → slice_index l.initial.frontier k ≤ l.coordinate;
  met : (k : ℕ) → l.fn.segment.low ≤ k → k < l.level → slice_index l.frontier k ≡ l.coordinate + 1;
  risen : (k : ℕ) → slice_index l.initial.frontier k ≤ slice_index l.frontier k;
  ahead : (k : ℕ) → l.level ≤ k → slice_index l.frontier k ≡ slice_index l.initial.frontier k;
}
