-- Flows in a network, their residual arcs and reduced costs, and what a solution is.
use Rattle.std.specs.Prelude.{ℕ, ◌*◌, ◌<◌, ◌≤◌, ◌==◌, ◌≡◌, ℤ, pos, ◌+ℤ◌, ◌-ℤ◌, ◌≤ℤ◌, Bool, true, false, if◌then◌else◌, List, length, slice_index, slice_index_or}
use Rattle.common.specs.Sums.{sum_below}
use Rattle.min_cost_flow.specs.declared.network.Cap.{Cap}
use Rattle.min_cost_flow.specs.declared.network.Cap.TheVariants.{AtMost, Any}
use Rattle.min_cost_flow.specs.Networks.{NetworkModel, node_count, arc_count, arc_at, supply_at}

-- ---- flows: amounts x i by the arc's number i

-- what arcs carry out of node v
abbrev pub outflow : NetworkModel → (ℕ → ℕ) → ℕ → ℕ
outflow net x v = sum_below (arc_count net) (λ i. if (arc_at net i).from == v then x i else 0)

-- what arcs carry into node v
abbrev pub inflow : NetworkModel → (ℕ → ℕ) → ℕ → ℕ
inflow net x v = sum_below (arc_count net) (λ i. if (arc_at net i).to == v then x i else 0)

-- the outflow less the inflow
abbrev pub net_outflow : NetworkModel → (ℕ → ℕ) → ℕ → ℤ
net_outflow net x v = pos (outflow net x v) -ℤ pos (inflow net x v)

abbrev pub cost_of : NetworkModel → (ℕ → ℕ) → ℕ
cost_of net x = sum_below (arc_count net) (λ i. (arc_at net i).cost * x i)

-- the amount is within the capacity
abbrev pub IsWithinCap : Cap → ℕ → Type 0
IsWithinCap (AtMost k) amount = amount ≤ k
IsWithinCap Any amount = Unit {0}

-- x is a flow: it keeps the capacities, and each node sends out its supply
pub record Flow (net : NetworkModel) (x : ℕ → ℕ) : Type 0 where
  pub within : (i : ℕ) → i < arc_count net → IsWithinCap (arc_at net i).cap (x i)
  pub meets : (v : ℕ) → v < node_count net → net_outflow net x v ≡ supply_at net v

abbrev pub HasNoFlow : NetworkModel → Type 0
HasNoFlow net = (y : ℕ → ℕ) → Flow net y → ⊥

-- no flow costs less
abbrev pub IsLeastCost : NetworkModel → (ℕ → ℕ) → Type 0
IsLeastCost net x = (y : ℕ → ℕ) → Flow net y → cost_of net x ≤ cost_of net y

-- ---- residual arcs: arc i along itself where `back` is false, against itself where it is true

-- one unit more is within the capacity
abbrev pub IsUnsaturated : Cap → ℕ → Type 0
IsUnsaturated (AtMost k) amount = amount < k
IsUnsaturated Any amount = Unit {0}

-- the residual arc has capacity: one more unit can go along it
abbrev pub IsResidual : NetworkModel → (ℕ → ℕ) → ℕ → Bool → Type 0
IsResidual net x i false = IsUnsaturated (arc_at net i).cap (x i)
IsResidual net x i true = 0 < x i

abbrev pub start_of : NetworkModel → ℕ → Bool → ℕ
start_of net i false = (arc_at net i).from
start_of net i true = (arc_at net i).to

abbrev pub end_of : NetworkModel → ℕ → Bool → ℕ
end_of net i false = (arc_at net i).to
end_of net i true = (arc_at net i).from

-- what a unit along the residual arc adds to the cost
abbrev pub unit_cost : NetworkModel → ℕ → Bool → ℤ
unit_cost net i false = pos (arc_at net i).cost
unit_cost net i true = pos 0 -ℤ pos (arc_at net i).cost

-- its reduced cost: the same with the potential of its start more and that of its end less
abbrev pub reduced_cost : NetworkModel → (ℕ → ℤ) → ℕ → Bool → ℤ
reduced_cost net p i back = unit_cost net i back +ℤ p (start_of net i back) -ℤ p (end_of net i back)

-- each unsaturated residual arc has a reduced cost of at least 0
pub record HasPotentials (net : NetworkModel) (x : ℕ → ℕ) (p : ℕ → ℤ) : Type 0 where
  pub residual : (i : ℕ) (back : Bool) → i < arc_count net → IsResidual net x i back → pos 0 ≤ℤ reduced_cost net p i back

-- ---- solutions

-- a solution: an amount for each arc, a potential for each node, and how much work it took: the searches
-- for a path, and the looks at residual arcs in them
pub record SolvedModel : Type 0 where
  pub flow : List ℕ
  pub potential : List ℤ
  pub searches : ℕ
  pub looks : ℕ

abbrev pub amounts : List ℕ → ℕ → ℕ
amounts xs i = slice_index xs i

abbrev pub at_nodes : List ℤ → ℕ → ℤ
at_nodes ps v = slice_index_or ps v (pos 0)

-- a flow of least cost, with potentials that show it
pub record Solves (net : NetworkModel) (solved : SolvedModel) : Type 0 where
  pub flow_count : length solved.flow ≡ arc_count net
  pub potential_count : length solved.potential ≡ node_count net
  pub flow : Flow net (amounts solved.flow)
  pub potentials : HasPotentials net (amounts solved.flow) (at_nodes solved.potential)
  pub least : IsLeastCost net (amounts solved.flow)
