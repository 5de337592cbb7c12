use Rattle.std.proofs.Common.{ℕ, ◌≡◌, ◌<◌, ◌≤◌, pos, ◌≤ℤ◌, ◌+ℤ◌, true}
use Rattle.min_cost_flow.specs.Networks.{NetworkModel, node_count}
use Rattle.min_cost_flow.specs.ResidualArcs.{end_at, capacity_at}
use Rattle.min_cost_flow.specs.Path.{previous_of, capacity_into}
use Rattle.min_cost_flow.specs.SolverState.{excess_at, last_node, CanAugment, IsFitting, predecessors_in, places_in}
use Rattle.min_cost_flow.proofs.Augmenting.{IsNarrowed}
use Rattle.min_cost_flow.proofs.solver.Solver.bottleneck.Given as goal

abbrev pub invariant-narrow : goal.invariant-narrow
invariant-narrow l = record {
  node : (net : NetworkModel) → CanAugment net l.self l.root → l.node < node_count net;
  narrowed : IsNarrowed (previous_of l.self.residual.arcs.items (predecessors_in l.self)) (places_in l.self) (capacity_into l.self.residual.capacities.items (predecessors_in l.self)) (last_node l.self) l.node l.amount;
  some : 0 < l.amount;
  found : l.amount ≤ capacity_at l.self.residual.capacities.items l.self.found;
  remaining : pos l.amount ≤ℤ excess_at l.self l.root;
  short : (excess_at l.self (end_at l.self.residual.arcs.items l.self.found) +ℤ pos l.amount) ≤ℤ pos 0;
  on : (net : NetworkModel) (h : CanAugment net l.self l.root) → h.path.on l.node ≡ true;
  most : (k : ℕ) → IsFitting l.self l.root k → k ≤ l.amount;
}

abbrev pub decreases-narrow : goal.decreases-narrow
decreases-narrow l = places_in l.self l.node
