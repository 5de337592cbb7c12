-- The residual arcs of a network under a flow, as the struct `Residual` keeps them.
use Rattle.std.specs.Prelude.{ℕ, ℤ, ◌+◌, ◌<◌, ◌≡◌, ◌≢◌, ◌^◌, length}
use Rattle.min_cost_flow.specs.declared.residual_network.Residual.{Residual}
use Rattle.min_cost_flow.specs.Networks.{NetworkModel, node_count, arc_count, arc_at}
use Rattle.min_cost_flow.specs.ResidualArcs.{end_at, cost_at, next_at, capacity_at, IsLinked, IsCosted, AreResidualArcs, carried, units_of}

-- the lists have their sizes
pub record HasSizes (net : NetworkModel) (r : Residual) : Type 0 where
  pub starts : length r.first.items ≡ node_count net
  pub arc_size : length r.arcs.items ≡ arc_count net + arc_count net
  pub capacities_size : length r.capacities.items ≡ arc_count net + arc_count net

-- the residual arcs are those of the network, and what fits along them is within its capacities
pub record IsResidualNetwork (net : NetworkModel) (r : Residual) : Type 0 where
  pub linked : IsLinked (node_count net) r.first.items r.arcs.items
  pub filled : AreResidualArcs net (capacity_at r.capacities.items) r.arcs.items
  pub capacities_size : length r.capacities.items ≡ arc_count net + arc_count net
  pub limits : (i : ℕ) → i < arc_count net → units_of (arc_at net i).cap < 2 ^ 32

-- what each arc carries
abbrev pub flow_of : Residual → ℕ → ℕ
flow_of r = carried (capacity_at r.capacities.items)

-- there is a residual arc of that number
pub record HasNumber (r : Residual) (k : ℕ) : Type 0 where
  pub arc : k < length r.arcs.items
  pub room : k < length r.capacities.items

-- `units` units fit along residual arc k now, and all else stays
pub record IsSetTo (r r' : Residual) (k units : ℕ) : Type 0 where
  pub first : r'.first ≡ r.first
  pub arc_size : length r'.arcs.items ≡ length r.arcs.items
  pub capacities_size : length r'.capacities.items ≡ length r.capacities.items
  pub end : (j : ℕ) → end_at r'.arcs.items j ≡ end_at r.arcs.items j
  pub next : (j : ℕ) → next_at r'.arcs.items j ≡ next_at r.arcs.items j
  pub here : capacity_at r'.capacities.items k ≡ units
  pub others : (j : ℕ) → j ≢ k → capacity_at r'.capacities.items j ≡ capacity_at r.capacities.items j
  pub cost : (z : ℤ) → IsCosted r.arcs.items r.capacities.items k z → IsCosted r'.arcs.items r'.capacities.items k z
  pub costs : (j : ℕ) → j ≢ k → cost_at r'.arcs.items j ≡ cost_at r.arcs.items j
