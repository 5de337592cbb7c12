use Rattle.std.proofs.Common.{◌≡◌, ◌≢◌, ◌<◌, ℕ}
use Rattle.std.specs.Prelude.{◌-ℤ◌, length}
use Rattle.min_cost_flow.specs.Flow.{at_nodes}
use Rattle.min_cost_flow.specs.Search.{labels, orders}
use Rattle.min_cost_flow.proofs.solver.update_potentials.Given as goal

abbrev pub invariant-loop-j : goal.invariant-loop-j
invariant-loop-j l = record {
  moved : (j : ℕ) → j < l.j → at_nodes l.potential (orders l.search j) ≡ labels l.search (orders l.search j) -ℤ l.search.bound;
  others : (v : ℕ) → ((j : ℕ) → j < l.j → orders l.search j ≢ v) → at_nodes l.potential v ≡ at_nodes l.initial.potential v;
  size : length l.potential ≡ length l.initial.potential;
}
