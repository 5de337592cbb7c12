use Rattle.std.proofs.Common.{◌≡◌, ◌<◌, ◌≤◌, ℕ}
use Rattle.std.specs.Prelude.{◌-ℤ◌}
use Rattle.min_cost_flow.specs.Flow.{at_nodes}
use Rattle.min_cost_flow.proofs.warm_start.lower_all.Given as goal

abbrev pub invariant-loop-at_node : goal.invariant-loop-at_node
invariant-loop-at_node l = record {
  done : (v : ℕ) → v < l.at_node-index → at_nodes l.potential v ≡ at_nodes l.initial.potential v -ℤ l.base;
  remaining : (v : ℕ) → l.at_node-index ≤ v → at_nodes l.potential v ≡ at_nodes l.initial.potential v;
}
