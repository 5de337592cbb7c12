use Rattle.std.proofs.Common.{◌≡◌, ◌<◌, ℕ}
use Rattle.min_cost_flow.specs.Flow.{amounts}
use Rattle.min_cost_flow.specs.ResidualArcs.{capacity_at, carried}
use Rattle.min_cost_flow.proofs.solver.read_flow.Given as goal

abbrev pub invariant-loop-i : goal.invariant-loop-i
invariant-loop-i l = (j : ℕ) → j < l.i → amounts l.flow j ≡ carried (capacity_at l.capacities) j
