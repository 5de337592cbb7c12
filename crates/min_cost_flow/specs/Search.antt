-- The search for the nearest node with a deficit: labels, the order of nodes by their
-- distance, and what holds of them.
use Rattle.std.specs.Prelude.{ℕ, ◌+◌, ◌*◌, ◌<◌, ◌≤◌, ◌≡◌, ◌≢◌, ℤ, pos, negsuc, ◌+ℤ◌, ◌-ℤ◌, ◌≤ℤ◌, ◌<ℤ◌, ◌⊎◌, List, length, slice_index_or}
use Rattle.min_cost_flow.specs.declared.network.TheConstants.{MAX_NODES}
use Rattle.min_cost_flow.specs.declared.residual_network.TheConstants.{MAX_RESIDUAL_ARCS, SATURATED}
use Rattle.min_cost_flow.specs.declared.dijkstra.TheConstants.{FAR}
use Rattle.common.specs.Sums.{sum_below}
use Rattle.min_cost_flow.specs.declared.residual_network.ResidualArc.{ResidualArc}
use Rattle.min_cost_flow.specs.declared.dijkstra.SearchInput.{SearchInput}
use Rattle.min_cost_flow.specs.declared.dijkstra.Search.{Search}
use Rattle.min_cost_flow.specs.declared.dijkstra.Candidate.{Candidate}
use Rattle.min_cost_flow.specs.declared.dijkstra.Visit.{Visit}
use Rattle.min_cost_flow.specs.Flow.{at_nodes}
use Rattle.min_cost_flow.specs.ResidualArcs.{start_at, end_at, cost_at, out_degree, StartsAt, IsLinked}

-- the label of a node that was not reached, `FAR` in the code
abbrev pub far : ℤ
far = FAR

-- no further from 0 than `far`, as labels, potentials and distances are
abbrev pub IsWithinFar : ℤ → Type 0
IsWithinFar z = ((pos 0 -ℤ far) ≤ℤ z) × (z ≤ℤ far)

-- what a unit along a residual arc costs, with `SATURATED` more while nothing fits
abbrev pub IsArcCost : ℤ → Type 0
IsArcCost c = ((negsuc 0 ≤ℤ c) × (c ≤ℤ pos 1)) ⊎ (((SATURATED -ℤ pos 1) ≤ℤ c) × (c ≤ℤ (SATURATED +ℤ pos 1)))

-- n nodes, and residual arcs between them
pub record IsGraph (n : ℕ) (arcs : List ResidualArc) : Type 0 where
  pub nodes : n ≤ MAX_NODES
  pub few : length arcs ≤ MAX_RESIDUAL_ARCS
  pub end : (k : ℕ) → k < length arcs → end_at arcs k < n
  pub cost : (k : ℕ) → k < length arcs → IsArcCost (cost_at arcs k)

-- residual arc k has capacity: a unit more fits along it
abbrev pub HasResidualCapacity : List ResidualArc → ℕ → Type 0
HasResidualCapacity arcs k = cost_at arcs k ≤ℤ pos 1

-- potentials with which a search can begin: under them no unsaturated residual arc has a reduced cost below 0
pub record AreFeasiblePotentials (n : ℕ) (arcs : List ResidualArc) (p e : ℕ → ℤ) : Type 0 where
  pub reduced : (k : ℕ) → k < length arcs → HasResidualCapacity arcs k → pos 0 ≤ℤ (cost_at arcs k +ℤ p (start_at arcs k) -ℤ p (end_at arcs k))
  pub low : (v : ℕ) → v < n → (pos 0 ≤ℤ (p v +ℤ pos (2 * n))) × (p v ≤ℤ pos (2 * n))
  pub zero : (v : ℕ) → v < n → e v <ℤ pos 0 → p v ≡ pos 0

-- an integer is at most k away from another
abbrev pub IsNear : ℤ → ℕ → ℤ → Type 0
IsNear z k a = (z ≤ℤ (a +ℤ pos k)) × (a ≤ℤ (z +ℤ pos k))

-- node v was labelled along residual arc k, from a node that was scanned before
pub record HasPredecessor (n : ℕ) (arcs : List ResidualArc) (q : ℕ → ℤ) (place : ℕ → ℕ) (scanned v k : ℕ) : Type 0 where
  pub start : ℕ
  pub node : start < n
  pub labelled : q start <ℤ far
  pub are_scanned : place start < scanned
  pub before : place start < place v
  pub leaves : StartsAt arcs start k
  pub has_capacity : HasResidualCapacity arcs k
  pub arrives : end_at arcs k ≡ v
  pub label : q v ≡ q start +ℤ cost_at arcs k

-- the nodes that were reached, in order of their distance q v - p v: those that were scanned, those
-- at the radius, and those further off
pub record IsReached (n : ℕ) (arcs : List ResidualArc) (p e : ℕ → ℤ) (s : ℕ) (q : ℕ → ℤ) (predecessor order place : ℕ → ℕ) (scanned ordered reached : ℕ) (radius : ℤ) : Type 0 where
  pub counts : (scanned ≤ ordered) × (ordered ≤ reached) × (reached ≤ n)
  pub begun : 0 < ordered
  pub node : (j : ℕ) → j < reached → order j < n
  pub at : (j : ℕ) → j < reached → place (order j) ≡ j
  pub has_label : (j : ℕ) → j < reached → q (order j) <ℤ far
  pub listed : (v : ℕ) → v < n → q v <ℤ far → (place v < reached) × (order (place v) ≡ v)
  pub most : (v : ℕ) → v < n → q v ≤ℤ far
  pub under : (v : ℕ) → v < n → q v <ℤ far → place v < ordered → (q v -ℤ p v) ≤ℤ radius
  pub here : (v : ℕ) → v < n → q v <ℤ far → scanned ≤ place v → radius ≤ℤ (q v -ℤ p v)
  pub near : (v : ℕ) → v < n → q v <ℤ far → IsNear (p s) scanned (q v)
  pub root : (s < n) × (q s <ℤ far) × (place s ≡ 0)
  pub nonnegative : (v : ℕ) → v < n → q v <ℤ far → pos 0 ≤ℤ e v
  pub entered : (v : ℕ) → v < n → q v <ℤ far → v ≢ s → HasPredecessor n arcs q place scanned v (predecessor v)

-- residual arc k leads from a scanned node to one with a deficit, at distance `bound`
pub record IsHit (n : ℕ) (arcs : List ResidualArc) (p e : ℕ → ℤ) (s : ℕ) (q : ℕ → ℤ) (place : ℕ → ℕ) (scanned : ℕ) (bound : ℤ) (k : ℕ) : Type 0 where
  pub start : ℕ
  pub node : start < n
  pub labelled : q start <ℤ far
  pub are_scanned : place start < scanned
  pub leaves : StartsAt arcs start k
  pub has_capacity : HasResidualCapacity arcs k
  pub deficit : e (end_at arcs k) <ℤ pos 0
  pub distance : bound ≡ q start +ℤ cost_at arcs k -ℤ p (end_at arcs k)
  pub near : IsNear (p s) scanned bound

-- the nearest node found so far with a deficit is at distance `bound`, not below the radius
pub record IsNearest (n : ℕ) (arcs : List ResidualArc) (p e : ℕ → ℤ) (s : ℕ) (q : ℕ → ℤ) (place : ℕ → ℕ) (scanned : ℕ) (radius bound : ℤ) (k : ℕ) : Type 0 where
  pub above : radius ≤ℤ bound
  pub most : bound ≤ℤ far
  pub hit : bound <ℤ far → IsHit n arcs p e s q place scanned bound k

-- residual arc k from node u gives no nearer label to its end
abbrev pub IsFeasibleAt : List ResidualArc → (ℕ → ℤ) → (ℕ → ℤ) → ℤ → ℕ → ℕ → Type 0
IsFeasibleAt arcs p q bound u k = HasResidualCapacity arcs k → (q u +ℤ cost_at arcs k -ℤ p (end_at arcs k)) <ℤ bound → q (end_at arcs k) ≤ℤ (q u +ℤ cost_at arcs k)

-- the same for all residual arcs of the first h nodes of the order
pub record AreFeasible (n : ℕ) (arcs : List ResidualArc) (p q : ℕ → ℤ) (place : ℕ → ℕ) (bound : ℤ) (h : ℕ) : Type 0 where
  pub served : (u k : ℕ) → u < n → q u <ℤ far → place u < h → StartsAt arcs u k → IsFeasibleAt arcs p q bound u k

-- nodes that were reached and not scanned are no nearer than `bound`
abbrev pub IsRemaining : ℕ → (ℕ → ℤ) → (ℕ → ℤ) → (ℕ → ℕ) → ℕ → ℤ → Type 0
IsRemaining n p q place scanned bound = (v : ℕ) → v < n → q v <ℤ far → scanned ≤ place v → bound ≤ℤ (q v -ℤ p v)

-- how many residual arcs start at the first h nodes of the order
abbrev pub looked : List ResidualArc → (ℕ → ℕ) → ℕ → ℕ
looked arcs order h = sum_below h (λ j. out_degree arcs (order j))

-- labels only fall, and those of the first h nodes of the order stay, with their places
pub record AreLowered (n h : ℕ) (q : ℕ → ℤ) (place : ℕ → ℕ) (q' : ℕ → ℤ) (place' : ℕ → ℕ) : Type 0 where
  pub lower : (v : ℕ) → v < n → q' v ≤ℤ q v
  pub same : (v : ℕ) → v < n → q v <ℤ far → place v < h → (q' v ≡ q v) × (place' v ≡ place v)
  pub old : (v : ℕ) → v < n → q' v <ℤ far → place' v < h → (q v <ℤ far) × (place v < h)

-- ---- the same, of the structs that the code keeps

abbrev pub nodes_of : SearchInput → ℕ
nodes_of g = length g.potential.now

abbrev pub first_of : SearchInput → List ℕ
first_of g = g.first.now

abbrev pub arcs_of : SearchInput → List ResidualArc
arcs_of g = g.arcs.now

abbrev pub potential_of : SearchInput → ℕ → ℤ
potential_of g = at_nodes g.potential.now

abbrev pub excess_of : SearchInput → ℕ → ℤ
excess_of g = at_nodes g.excess.now

-- stands for visits past the last
abbrev pub no_visit : Visit
no_visit = record { label = pos 0; predecessor = 0; place = 0; at_place = 0 }

abbrev pub visit_at : List Visit → ℕ → Visit
visit_at visits v = slice_index_or visits v no_visit

abbrev pub label_at : List Visit → ℕ → ℤ
label_at visits v = (visit_at visits v).label

abbrev pub predecessor_at : List Visit → ℕ → ℕ
predecessor_at visits v = (visit_at visits v).predecessor

abbrev pub order_at : List Visit → ℕ → ℕ
order_at visits j = (visit_at visits j).at_place

abbrev pub place_at : List Visit → ℕ → ℕ
place_at visits v = (visit_at visits v).place

abbrev pub labels : Search → ℕ → ℤ
labels s v = label_at s.visits.now v

abbrev pub predecessors : Search → ℕ → ℕ
predecessors s v = predecessor_at s.visits.now v

abbrev pub orders : Search → ℕ → ℕ
orders s j = order_at s.visits.now j

abbrev pub places : Search → ℕ → ℕ
places s v = place_at s.visits.now v

-- a search keeps the list that it was lent
abbrev pub HasSameList : Search → Search → Type 0
HasSameList s s' = s'.visits.ghost_name ≡ s.visits.ghost_name

-- what a search reads is sound
pub record IsSearchInput (g : SearchInput) : Type 0 where
  pub excesses : length g.excess.now ≡ nodes_of g
  pub graph : IsGraph (nodes_of g) (arcs_of g)
  pub linked : IsLinked (nodes_of g) (first_of g) (arcs_of g)
  pub priced : AreFeasiblePotentials (nodes_of g) (arcs_of g) (potential_of g) (excess_of g)
  pub root : g.root < nodes_of g

-- a search can begin: the root has an excess, and no node has a label
pub record IsUnlabelled (g : SearchInput) (visits : List Visit) : Type 0 where
  pub input : IsSearchInput g
  pub size : length visits ≡ nodes_of g
  pub unlabelled : (v : ℕ) → v < nodes_of g → label_at visits v ≡ far
  pub root : pos 0 <ℤ excess_of g g.root

abbrev pub Reaches : SearchInput → Search → Type 0
Reaches g s = IsReached (nodes_of g) (arcs_of g) (potential_of g) (excess_of g) g.root (labels s) (predecessors s) (orders s) (places s) s.scanned s.ordered s.reached s.radius

abbrev pub FindsNearest : SearchInput → Search → Type 0
FindsNearest g s = IsNearest (nodes_of g) (arcs_of g) (potential_of g) (excess_of g) g.root (labels s) (places s) s.scanned s.radius s.bound s.found

-- what holds all through a search
pub record IsSearch (g : SearchInput) (s : Search) : Type 0 where
  pub input : IsSearchInput g
  pub size : length s.visits.now ≡ nodes_of g
  pub reached : Reaches g s
  pub nearest : FindsNearest g s

abbrev pub HasFeasibleLabels : SearchInput → Search → Type 0
HasFeasibleLabels g s = AreFeasible (nodes_of g) (arcs_of g) (potential_of g) (labels s) (places s) s.bound s.scanned

abbrev pub HasRemaining : SearchInput → Search → Type 0
HasRemaining g s = IsRemaining (nodes_of g) (potential_of g) (labels s) (places s) s.scanned s.bound

abbrev pub HasLowered : SearchInput → ℕ → Search → Search → Type 0
HasLowered g h s s' = AreLowered (nodes_of g) h (labels s) (places s) (labels s') (places s')

-- all nodes at the radius were scanned, and no node that waits is nearer than `radius`, at which one is
pub record IsNextRadius (g : SearchInput) (s : Search) (radius : ℤ) : Type 0 where
  pub done : s.scanned ≡ s.ordered
  pub rises : s.radius ≤ℤ radius
  pub bound : radius ≤ℤ s.bound
  pub least : (j : ℕ) → s.ordered ≤ j → j < s.reached → radius ≤ℤ (labels s (orders s j) -ℤ potential_of g (orders s j))
  pub some : (j : ℕ) × (s.ordered ≤ j) × (j < s.reached) × (radius ≡ labels s (orders s j) -ℤ potential_of g (orders s j))

-- labels, the bound and what was scanned and reached are as they were; the order of the nodes that wait, how many of
-- them are ordered and the radius may have changed
pub record IsReordered (g : SearchInput) (s s' : Search) : Type 0 where
  pub search : IsSearch g s'
  pub list : HasSameList s s'
  pub kept : HasLowered g s.scanned s s'
  pub label : (v : ℕ) → labels s' v ≡ labels s v
  pub scanned : s'.scanned ≡ s.scanned
  pub reached : s'.reached ≡ s.reached
  pub bound : s'.bound ≡ s.bound

-- the node at place j of the order waits after those that are ordered
pub record IsWaiting (g : SearchInput) (s : Search) (j : ℕ) : Type 0 where
  pub search : IsSearch g s
  pub behind : s.ordered ≤ j
  pub inside : j < s.reached

-- node u is the one that is scanned
pub record IsScanning (g : SearchInput) (s : Search) (u : ℕ) : Type 0 where
  pub search : IsSearch g s
  pub node : u < nodes_of g
  pub labelled : labels s u <ℤ far
  pub place : places s u + 1 ≡ s.scanned
  pub near : IsNear (potential_of g g.root) (places s u) (labels s u)
  pub radius : s.radius ≤ℤ (labels s u -ℤ potential_of g u)

-- a residual arc of the scanned node was taken up: labels and the bound may have fallen
pub record IsRelaxed (g : SearchInput) (s s' : Search) : Type 0 where
  pub search : IsSearch g s'
  pub list : HasSameList s s'
  pub kept : HasLowered g s.scanned s s'
  pub scanned : s'.scanned ≡ s.scanned
  pub radius : s'.radius ≡ s.radius
  pub bound : s'.bound ≤ℤ s.bound

-- all stays but the bound and what was found
pub record SameBesideBound (s s' : Search) : Type 0 where
  pub visits : s'.visits ≡ s.visits
  pub scanned : s'.scanned ≡ s.scanned
  pub ordered : s'.ordered ≡ s.ordered
  pub reached : s'.reached ≡ s.reached
  pub radius : s'.radius ≡ s.radius

-- all stays but the order
pub record SameBesideOrder (s s' : Search) : Type 0 where
  pub list : HasSameList s s'
  pub size : length s'.visits.now ≡ length s.visits.now
  pub label : (v : ℕ) → labels s' v ≡ labels s v
  pub predecessor : (v : ℕ) → predecessors s' v ≡ predecessors s v
  pub scanned : s'.scanned ≡ s.scanned
  pub reached : s'.reached ≡ s.reached
  pub radius : s'.radius ≡ s.radius
  pub bound : s'.bound ≡ s.bound
  pub found : s'.found ≡ s.found

-- a new label changes none of these
pub record SameProgress (s s' : Search) : Type 0 where
  pub list : HasSameList s s'
  pub size : length s'.visits.now ≡ length s.visits.now
  pub scanned : s'.scanned ≡ s.scanned
  pub ordered : s'.ordered ≡ s.ordered
  pub radius : s'.radius ≡ s.radius
  pub bound : s'.bound ≡ s.bound
  pub found : s'.found ≡ s.found

-- nor these, where the node was reached before
pub record SameOrder (s s' : Search) : Type 0 where
  pub order : (j : ℕ) → orders s' j ≡ orders s j
  pub place : (v : ℕ) → places s' v ≡ places s v
  pub reached : s'.reached ≡ s.reached
  pub progress : SameProgress s s'

-- a scanned node's residual arc offers its end a lesser label, no nearer than the radius
pub record IsCandidate (n : ℕ) (arcs : List ResidualArc) (p : ℕ → ℤ) (s : ℕ) (q : ℕ → ℤ) (place : ℕ → ℕ) (scanned : ℕ) (radius : ℤ) (k v : ℕ) (x : ℤ) : Type 0 where
  pub start : ℕ
  pub node : start < n
  pub labelled : q start <ℤ far
  pub are_scanned : place start < scanned
  pub leaves : StartsAt arcs start k
  pub has_capacity : HasResidualCapacity arcs k
  pub arrives : end_at arcs k ≡ v
  pub label : x ≡ q start +ℤ cost_at arcs k
  pub near : IsNear (p s) scanned x
  pub beyond : radius ≤ℤ (x -ℤ p v)
  pub less : x <ℤ q v

-- the step is such an offer in a search
pub record HasCandidate (g : SearchInput) (s : Search) (step : Candidate) : Type 0 where
  pub search : IsSearch g s
  pub candidate : IsCandidate (nodes_of g) (arcs_of g) (potential_of g) g.root (labels s) (places s) s.scanned s.radius step.number step.end step.label

-- the step ends at a node of the search
pub record HasEnd (s : Search) (step : Candidate) : Type 0 where
  pub few : length s.visits.now ≤ MAX_NODES
  pub node : step.end < length s.visits.now
  pub number : step.number < MAX_RESIDUAL_ARCS

-- a node comes in the order after those that are ordered, and can change places with the first after them
pub record CanAdvance (s : Search) (v : ℕ) : Type 0 where
  pub few : length s.visits.now ≤ MAX_NODES
  pub node : v < length s.visits.now
  pub from : places s v < length s.visits.now
  pub order : s.ordered ≤ places s v
  pub other : orders s s.ordered < length s.visits.now
  pub at : places s (orders s s.ordered) ≡ s.ordered
  pub listed : orders s (places s v) ≡ v

-- the order has such a place, and there is such a node
pub record CanPut (s : Search) (place node : ℕ) : Type 0 where
  pub few : length s.visits.now ≤ MAX_NODES
  pub at : place < length s.visits.now
  pub stands : node < length s.visits.now

-- an entry was written
pub record IsPut {A : Type 0} (f f' : ℕ → A) (i : ℕ) (a : A) : Type 0 where
  pub here : f' i ≡ a
  pub others : (j : ℕ) → j ≢ i → f' j ≡ f j

-- node v at place `from` of the order and the node at place `to` have changed places
pub record IsSwapped (order place order' place' : ℕ → ℕ) (v from to : ℕ) : Type 0 where
  pub moved : order' to ≡ v
  pub other : from ≢ to → order' from ≡ order to
  pub rest : (j : ℕ) → j ≢ to → j ≢ from → order' j ≡ order j
  pub stands : place' v ≡ to
  pub instead : order to ≢ v → place' (order to) ≡ from
  pub stay : (w : ℕ) → w ≢ v → w ≢ order to → place' w ≡ place w

-- a node has got a label and the residual arc by which it was reached, and if it had no label a place after
-- all others
pub record IsLabelled (s s' : Search) (step : Candidate) : Type 0 where
  pub label : IsPut (labels s) (labels s') step.end step.label
  pub predecessor : IsPut (predecessors s) (predecessors s') step.end step.number
  pub progress : SameProgress s s'
  pub again : labels s step.end <ℤ far → SameOrder s s'
  pub anew : far ≤ℤ labels s step.end → IsPut (orders s) (orders s') s.reached step.end × IsPut (places s) (places s') step.end s.reached × (s'.reached ≡ s.reached + 1)
