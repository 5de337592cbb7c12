use Rattle.std.proofs.Common.{◌≤◌, ◌+◌, ℕ}
use Rattle.least_length.specs.Searching.{seen_at, ArePairs}
use Rattle.least_length.proofs.sight_lists.list_before.Given as goal

abbrev pub invariant-loop-level : goal.invariant-loop-level
invariant-loop-level l = record {
  last : l.last ≤ l.behind;
  weight : l.weight ≤ l.level;
  ahead : (k : ℕ) → l.level ≤ k → (seen_at l.frontier k).segment ≤ l.behind;
  met : (k : ℕ) → (seen_at l.frontier k).segment ≤ l.behind + 1;
  pairs : ArePairs (l.behind + 1) l.sights.items;
}
