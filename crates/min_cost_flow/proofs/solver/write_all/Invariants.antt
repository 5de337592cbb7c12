use Rattle.std.proofs.Common.{◌≡◌, ◌<◌, ℕ}
use Rattle.min_cost_flow.specs.Flow.{at_nodes}
use Rattle.min_cost_flow.proofs.solver.write_all.Given as goal

abbrev pub invariant-loop-at_node : goal.invariant-loop-at_node
invariant-loop-at_node l = (v : ℕ) → v < l.at_node-index → at_nodes l.numbers v ≡ l.number
