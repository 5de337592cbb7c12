use Rattle.least_length.specs.Searching.{ArePairs, IsMet}
use Rattle.least_length.proofs.sight_lists.list_pairs.Given as goal

abbrev pub invariant-loop-place : goal.invariant-loop-place
invariant-loop-place l = record {
  met : IsMet l.place l.frontier;
  pairs : ArePairs l.place l.sights.items;
}
