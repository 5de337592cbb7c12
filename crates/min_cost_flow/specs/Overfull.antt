-- Sets of nodes that supply more than the arcs out of them can carry (Gale 1957): what shows that there is no flow.
use Rattle.std.specs.Prelude.{ℕ, ◌<◌, ◌≡◌, ◌≢◌, ℤ, pos, ◌<ℤ◌, Bool, true, false, not, ◌&&◌, if◌then◌else◌, int_lt, List, length, slice_index_or}
use Rattle.common.specs.Sums.{sum_below, total_below}
use Rattle.min_cost_flow.specs.declared.network.Cap.TheVariants.{Any}
use Rattle.min_cost_flow.specs.declared.dijkstra.Visit.{Visit}
use Rattle.min_cost_flow.specs.Networks.{NetworkModel, node_count, arc_count, arc_at, supply_at}
use Rattle.min_cost_flow.specs.ResidualArcs.{units_of}
use Rattle.min_cost_flow.specs.Search.{far, label_at}

-- whether arc i leads out of the set
abbrev pub leads_out : NetworkModel → (ℕ → Bool) → ℕ → Bool
leads_out net s i = s (arc_at net i).from && not (s (arc_at net i).to)

-- what the nodes of the set supply, less what they want
abbrev pub supply_of : NetworkModel → (ℕ → Bool) → ℤ
supply_of net s = total_below (node_count net) (λ v. if s v then supply_at net v else pos 0)

-- what the arcs out of the set can carry, where each of them has a limit
abbrev pub capacity_out : NetworkModel → (ℕ → Bool) → ℕ
capacity_out net s = sum_below (arc_count net) (λ i. if leads_out net s i then units_of (arc_at net i).cap else 0)

-- the set supplies more than the arcs out of it can carry
pub record IsOverfull (net : NetworkModel) (s : ℕ → Bool) : Type 0 where
  pub limited : (i : ℕ) → i < arc_count net → leads_out net s i ≡ true → (arc_at net i).cap ≢ Any
  pub more : pos (capacity_out net s) <ℤ supply_of net s

-- whether node v is marked; past the end of the list none is
abbrev pub is_in : List Bool → ℕ → Bool
is_in marks v = slice_index_or marks v false

-- whether a search reached node v
abbrev pub was_reached : List Visit → ℕ → Bool
was_reached visits v = int_lt (label_at visits v) far

-- a search stopped: the nodes that it reached supply more than can leave them
pub record HasStopped (net : NetworkModel) (visits : List Visit) : Type 0 where
  pub labels : length visits ≡ node_count net
  pub overfull : IsOverfull net (was_reached visits)
