use Rattle.std.proofs.Common.{◌≡◌, ◌<◌, ◌+◌, ℕ, true}
use Rattle.min_cost_flow.specs.Networks.{NetworkModel, node_count, raised}
use Rattle.min_cost_flow.specs.Flow.{at_nodes}
use Rattle.min_cost_flow.specs.ResidualArcs.{end_at}
use Rattle.min_cost_flow.specs.Residuals.{IsResidualNetwork}
use Rattle.min_cost_flow.specs.Path.{IsOnPath, previous_of}
use Rattle.min_cost_flow.specs.Round.{carrying}
use Rattle.min_cost_flow.specs.SolverState.{flow_in, potential_at, last_node, CanAugment, predecessors_in, places_in}
use Rattle.min_cost_flow.proofs.Augmenting.{IsSending}
use Rattle.min_cost_flow.proofs.solver.Solver.augment.Given as goal

abbrev pub invariant-along : goal.invariant-along
invariant-along l = record {
  node : (net : NetworkModel) → CanAugment net l.fn.self l.root → l.node < node_count net;
  residual : (net : NetworkModel) → CanAugment net l.fn.self l.root → IsResidualNetwork net l.self.residual;
  ends : (k : ℕ) → end_at l.self.residual.arcs.items k ≡ end_at l.fn.self.residual.arcs.items k;
  nodes : l.self.nodes ≡ l.initial.self.nodes;
  visits : l.self.visits ≡ l.fn.self.visits;
  found : l.self.found ≡ l.fn.self.found;
  searches : l.self.searches ≡ l.fn.self.searches;
  looks : l.self.looks ≡ l.fn.self.looks;
  on : (net : NetworkModel) (h : CanAugment net l.fn.self l.root) → h.path.on l.node ≡ true;
  on_path : IsOnPath (previous_of l.fn.self.residual.arcs.items (predecessors_in l.fn.self)) (places_in l.fn.self) (last_node l.fn.self) l.node;
  sending : (net : NetworkModel) (h : CanAugment net l.fn.self l.root) →
      IsSending net (potential_at l.fn.self) (at_nodes (raised l.fn.self.nodes.excess.items (end_at l.fn.self.residual.arcs.items l.fn.self.found) l.amount)) h.path.on (places_in l.fn.self) (flow_in l.fn.self) (flow_in l.self) l.node l.amount (carrying net (flow_in l.fn.self) + places_in l.fn.self (last_node l.fn.self) + 1);
}

abbrev pub decreases-along : goal.decreases-along
decreases-along l = places_in l.fn.self l.node
