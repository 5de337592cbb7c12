use Rattle.std.proofs.Common.{◌≡◌, ◌<◌, ℕ}
use Rattle.std.specs.Prelude.{length}
use Rattle.min_cost_flow.specs.Search.{far, labels, predecessors, orders, places}
use Rattle.min_cost_flow.proofs.solver.clear.Given as goal

abbrev pub invariant-loop-j : goal.invariant-loop-j
invariant-loop-j l = record {
  cleared : (j : ℕ) → j < l.j → labels l.search (orders l.initial.search j) ≡ far;
  others : (v : ℕ) → labels l.initial.search v ≡ far → labels l.search v ≡ far;
  predecessor : (v : ℕ) → predecessors l.search v ≡ predecessors l.initial.search v;
  order : (j : ℕ) → orders l.search j ≡ orders l.initial.search j;
  place : (v : ℕ) → places l.search v ≡ places l.initial.search v;
  found : l.search.found ≡ l.initial.search.found;
  list : l.search.visits.ghost_name ≡ l.initial.search.visits.ghost_name;
  size : length l.search.visits.now ≡ length l.initial.search.visits.now;
}
