-- What holds of the solver from one step to the next, and of a flow that stands while supplies move.
use Rattle.std.specs.Prelude.{ℕ, ◌+◌, ◌^◌, ◌<◌, ◌≤◌, ◌≡◌, ◌≢◌, ℤ, pos, negsuc, ◌+ℤ◌, ◌≤ℤ◌, ◌<ℤ◌, Bool, true, false, List, length}
use Rattle.min_cost_flow.specs.declared.network.TheConstants.{MAX_NODES}
use Rattle.min_cost_flow.specs.declared.residual_network.Residual.{Residual}
use Rattle.min_cost_flow.specs.Networks.{NetworkModel, node_count, IsNetwork}
use Rattle.min_cost_flow.specs.Flow.{Flow, HasPotentials, IsLeastCost, HasNoFlow, at_nodes, cost_of}
use Rattle.min_cost_flow.specs.ResidualArcs.{start_at, end_at, next_at, reverse_of, capacity_at, IsCosted}
use Rattle.min_cost_flow.specs.Residuals.{HasSizes, IsResidualNetwork, flow_of}
use Rattle.min_cost_flow.specs.declared.dijkstra.Search.{Search}
use Rattle.min_cost_flow.specs.declared.dijkstra.Visit.{Visit}
use Rattle.min_cost_flow.specs.Search.{far, label_at, predecessor_at, place_at, labels, predecessors, orders, places, IsWithinFar}
use Rattle.min_cost_flow.specs.declared.solver.Solver.{Solver}
use Rattle.min_cost_flow.specs.Path.{HasTightPath, IsOnPath, previous_of, capacity_into}
use Rattle.min_cost_flow.specs.Round.{IsRound, IsLess, IsWork, carrying}

-- the excess of a node; below 0 it is a deficit
abbrev pub excess_at : Solver → ℕ → ℤ
excess_at s = at_nodes s.nodes.excess.items

abbrev pub potential_at : Solver → ℕ → ℤ
potential_at s = at_nodes s.nodes.potential.items

-- what each arc carries
abbrev pub flow_in : Solver → ℕ → ℕ
flow_in s = flow_of s.residual

-- the residual arc by which the last search reached a node, and the place of the node in its order
abbrev pub predecessors_in : Solver → ℕ → ℕ
predecessors_in s = predecessor_at s.visits.items

abbrev pub places_in : Solver → ℕ → ℕ
places_in s = place_at s.visits.items

-- the lists have the sizes that the network needs, and no node has a label
pub record IsSized (net : NetworkModel) (s : Solver) : Type 0 where
  pub network : IsNetwork net
  pub capacity : HasSizes net s.residual
  pub potentials : length s.nodes.potential.items ≡ node_count net
  pub excesses : length s.nodes.excess.items ≡ node_count net
  pub labels : length s.visits.items ≡ node_count net
  pub unlabelled : (v : ℕ) → v < node_count net → label_at s.visits.items v ≡ far

-- what holds between two searches, of the residual network, the potentials, the excesses and the visits
pub record IsReadyIn (net : NetworkModel) (r : Residual) (potential excess : List ℤ) (visits : List Visit) : Type 0 where
  pub network : IsNetwork net
  pub residual : IsResidualNetwork net r
  pub potentials : length potential ≡ node_count net
  pub excesses : length excess ≡ node_count net
  pub labels : length visits ≡ node_count net
  pub round : IsRound net (flow_of r) (at_nodes potential) (at_nodes excess)
  pub unlabelled : (v : ℕ) → v < node_count net → label_at visits v ≡ far

abbrev pub IsReady : NetworkModel → Solver → Type 0
IsReady net s = IsReadyIn net s.residual s.nodes.potential.items s.nodes.excess.items s.visits.items

-- the same when all units have been sent
pub record IsAllSent (net : NetworkModel) (s : Solver) : Type 0 where
  pub ready : IsReady net s
  pub sent : (v : ℕ) → v < node_count net → excess_at s v ≡ pos 0

-- whether all units could be sent
pub record IsVerdict (net : NetworkModel) (s : Solver) (sent : Bool) : Type 0 where
  pub all_sent : sent ≡ true → IsAllSent net s
  pub no_flow : sent ≡ false → HasNoFlow net

-- the work that was done keeps its bounds
abbrev pub HasWorked : NetworkModel → Solver → Type 0
HasWorked net s = IsWork net (flow_in s) (excess_at s) s.searches s.looks

-- a solve goes on: it is between two searches, and the work that was done keeps its bounds
pub record IsBetweenSearches (net : NetworkModel) (s : Solver) : Type 0 where
  pub ready : IsReady net s
  pub work : HasWorked net s

-- units went along a path that a search found, and no more arcs than it looked at carry units anew
pub record IsAugmented (net : NetworkModel) (s s' : Solver) : Type 0 where
  pub ready : IsReady net s'
  pub less : IsLess net (excess_at s) (excess_at s')
  pub carrying : carrying net (flow_in s') + s.looks ≤ carrying net (flow_in s) + s'.looks

-- a node has no excess any more, and no other has one anew
pub record HasSentFrom (net : NetworkModel) (s s' : Solver) (root : ℕ) : Type 0 where
  pub between_searches : IsBetweenSearches net s'
  pub here : excess_at s' root ≤ℤ pos 0
  pub done : (v : ℕ) → v < node_count net → excess_at s v ≤ℤ pos 0 → excess_at s' v ≤ℤ pos 0

-- ---- one augmentation

-- the node where the last residual arc of the path starts
abbrev pub last_node : Solver → ℕ
last_node s = start_at s.residual.arcs.items s.found

-- a search has found a path from a node with an excess to one with a deficit, whose last residual
-- arc is `found`
pub record CanAugmentIn (net : NetworkModel) (r : Residual) (potential excess : List ℤ) (visits : List Visit) (found from : ℕ) : Type 0 where
  pub ready : IsReadyIn net r potential excess visits
  pub path : HasTightPath (node_count net) r.arcs.items (at_nodes potential) (predecessor_at visits) (place_at visits) from found
  pub root : from < node_count net
  pub remaining : pos 0 <ℤ at_nodes excess from
  pub deficit : at_nodes excess (end_at r.arcs.items found) <ℤ pos 0

abbrev pub CanAugment : NetworkModel → Solver → ℕ → Type 0
CanAugment net s from = CanAugmentIn net s.residual s.nodes.potential.items s.nodes.excess.items s.visits.items s.found from

-- units went along that path, and no more arcs than it has carry units anew
pub record IsSentAlong (net : NetworkModel) (s s' : Solver) : Type 0 where
  pub ready : IsReady net s'
  pub less : IsLess net (excess_at s) (excess_at s')
  pub carrying : carrying net (flow_in s') ≤ carrying net (flow_in s) + places_in s (last_node s) + 1

-- `amount` units fit along the path, and are within the excess where it starts and the deficit where it ends
pub record IsFitting (s : Solver) (root amount : ℕ) : Type 0 where
  pub found : amount ≤ capacity_at s.residual.capacities.items s.found
  pub remaining : pos amount ≤ℤ excess_at s root
  pub short : (excess_at s (end_at s.residual.arcs.items s.found) +ℤ pos amount) ≤ℤ pos 0
  pub fits : (v : ℕ) → IsOnPath (previous_of s.residual.arcs.items (predecessors_in s)) (places_in s) (last_node s) v → 0 < places_in s v → amount ≤ capacity_into s.residual.capacities.items (predecessors_in s) v

-- `amount` units can go along the path, and no more
pub record IsBottleneck (s : Solver) (root amount : ℕ) : Type 0 where
  pub some : 0 < amount
  pub fitting : IsFitting s root amount
  pub most : (k : ℕ) → IsFitting s root k → k ≤ amount

-- ---- one residual arc

-- a unit along residual arc k costs from -1 to 1
abbrev pub HasUnitCost : Residual → ℕ → Type 0
HasUnitCost r k = (z : ℤ) × (negsuc 0 ≤ℤ z) × (z ≤ℤ pos 1) × IsCosted r.arcs.items r.capacities.items k z

-- residual arc k has a reverse, which is another one, and what fits along both together is a number of 32 bits
pub record IsPaired (r : Residual) (k : ℕ) : Type 0 where
  pub sizes : length r.capacities.items ≡ length r.arcs.items
  pub here : k < length r.arcs.items
  pub there : reverse_of k < length r.arcs.items
  pub apart : k ≢ reverse_of k
  pub cost : HasUnitCost r k
  pub back_cost : HasUnitCost r (reverse_of k)
  pub capacity : capacity_at r.capacities.items k + capacity_at r.capacities.items (reverse_of k) < 2 ^ 32

-- `amount` units went along residual arc k: less fits along it, and as much more along its reverse
pub record IsPushedAlong (r r' : Residual) (k amount : ℕ) : Type 0 where
  pub first : r'.first ≡ r.first
  pub arc_size : length r'.arcs.items ≡ length r.arcs.items
  pub capacities_size : length r'.capacities.items ≡ length r.capacities.items
  pub ends : (j : ℕ) → end_at r'.arcs.items j ≡ end_at r.arcs.items j
  pub nexts : (j : ℕ) → next_at r'.arcs.items j ≡ next_at r.arcs.items j
  pub costs : (j : ℕ) (z : ℤ) → IsCosted r.arcs.items r.capacities.items j z → IsCosted r'.arcs.items r'.capacities.items j z
  pub less : capacity_at r'.capacities.items k + amount ≡ capacity_at r.capacities.items k
  pub more : capacity_at r'.capacities.items (reverse_of k) ≡ capacity_at r.capacities.items (reverse_of k) + amount
  pub others : (j : ℕ) → j ≢ k → j ≢ reverse_of k → capacity_at r'.capacities.items j ≡ capacity_at r.capacities.items j

-- ---- what is read and written after a search

-- the scanned nodes are in the order, and their labels and the bound are in range
pub record CanUpdate (potential : List ℤ) (s : Search) : Type 0 where
  pub order : s.scanned ≤ length s.visits.now
  pub small : length potential ≤ MAX_NODES
  pub are_scanned : (j : ℕ) → j < s.scanned → orders s j < length potential
  pub sizes : length s.visits.now ≡ length potential
  pub labels : (j : ℕ) → j < s.scanned → IsWithinFar (labels s (orders s j))
  pub bound : IsWithinFar s.bound

-- the nodes that were reached are in the order
pub record HasReachedOrder (s : Search) : Type 0 where
  pub order : s.reached ≤ length s.visits.now
  pub small : length s.visits.now ≤ MAX_NODES
  pub nodes : (j : ℕ) → j < s.reached → orders s j < length s.visits.now

-- the labels of the nodes that were reached are taken away, and their order stays
pub record IsCleared (s s' : Search) : Type 0 where
  pub cleared : (j : ℕ) → j < s.reached → labels s' (orders s j) ≡ far
  pub others : (v : ℕ) → labels s v ≡ far → labels s' v ≡ far
  pub predecessor : (v : ℕ) → predecessors s' v ≡ predecessors s v
  pub order : (j : ℕ) → orders s' j ≡ orders s j
  pub place : (v : ℕ) → places s' v ≡ places s v
  pub found : s'.found ≡ s.found
  pub size : length s'.visits.now ≡ length s.visits.now

-- what a flow costs, and potentials that show that none costs less
pub record IsShown (net : NetworkModel) (cost : ℕ) (potential : List ℤ) : Type 0 where
  pub count : length potential ≡ node_count net
  pub amounts : ℕ → ℕ
  pub flow : Flow net amounts
  pub potentials : HasPotentials net amounts (at_nodes potential)
  pub least : IsLeastCost net amounts
  pub costs : cost_of net amounts ≡ cost
