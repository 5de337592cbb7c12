use Rattle.std.proofs.Common.{◌<◌, ◌≤◌, ◌+◌, ℕ}
use Rattle.min_cost_flow.specs.declared.warm_start.TheConstants.{MAX_CARRIED}
use Rattle.min_cost_flow.specs.ResidualArcs.{capacity_at, carried}
use Rattle.min_cost_flow.proofs.warm_start.can_carry_more.Given as goal

abbrev pub invariant-loop-i : goal.invariant-loop-i
invariant-loop-i l = (j : ℕ) → j < l.i → carried (capacity_at l.capacities) j + l.amount ≤ MAX_CARRIED
