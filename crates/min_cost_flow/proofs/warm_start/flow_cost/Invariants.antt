use Rattle.std.proofs.Common.{◌≡◌, ◌≤◌, ◌*◌}
use Rattle.common.specs.Sums.{sum_below}
use Rattle.min_cost_flow.specs.Networks.{arc_at}
use Rattle.min_cost_flow.specs.ResidualArcs.{capacity_at, carried}
use Rattle.min_cost_flow.proofs.warm_start.flow_cost.Given as goal

abbrev pub invariant-loop-i : goal.invariant-loop-i
invariant-loop-i l = record {
  sum : l.cost ≡ sum_below l.i (λ i. (arc_at l.network i).cost * carried (capacity_at l.capacities) i);
  few : l.cost ≤ l.i * 4294967296;
}
