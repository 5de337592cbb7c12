use Rattle.std.proofs.Common.{◌^◌, ◌<◌, ◌*◌, ℕ, length}
use Rattle.min_cost_flow.specs.Networks.{arc_at}
use Rattle.min_cost_flow.specs.ResidualArcs.{numbers, units_of, IsLatest}
use Rattle.min_cost_flow.proofs.Building.{starting, IsBuilt}
use Rattle.min_cost_flow.proofs.residual_network.put_arcs.Given as goal

abbrev pub invariant-loop-i : goal.invariant-loop-i
invariant-loop-i l = record {
  first : (v : ℕ) → v < length l.first → IsLatest (starting l.network) v (2 * l.i) (numbers l.first v);
  built : (j : ℕ) → j < l.i → IsBuilt l.network l.arcs l.capacities j;
  limits : (j : ℕ) → j < l.i → units_of (arc_at l.network j).cap < 2 ^ 32;
}
