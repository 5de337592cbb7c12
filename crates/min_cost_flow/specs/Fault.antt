-- What a list of supplies and a list of arcs can be refused for.
use Rattle.std.specs.Prelude.{ℕ, ◌<◌, ◌≤◌, pos, ◌-ℤ◌, ◌<ℤ◌, ◌⊎◌}
use Rattle.min_cost_flow.specs.declared.network.TheConstants.{MAX_ARCS, MAX_NODES}
use Rattle.min_cost_flow.specs.declared.network.TheConstants.{MAX_SUPPLY}
use Rattle.min_cost_flow.specs.Networks.{NetworkModel, node_count, arc_count, arc_at, supply_at, IsSmall, HasEnds, HasSuppliesInRange}
use Rattle.min_cost_flow.specs.declared.network.NetFault.{NetFault}
use Rattle.min_cost_flow.specs.declared.network.NetFault.TheVariants.{TooLarge, BadEnd, BadSupply, BadCost}

-- the fault is there
abbrev pub HasFault : NetworkModel → NetFault → Type 0
HasFault net TooLarge = (MAX_NODES < node_count net) ⊎ (MAX_ARCS < arc_count net)
HasFault net BadEnd = (i : ℕ) × (i < arc_count net) × ((node_count net ≤ (arc_at net i).from) ⊎ (node_count net ≤ (arc_at net i).to))
HasFault net BadSupply = (v : ℕ) × (v < node_count net) × ((supply_at net v <ℤ (pos 0 -ℤ pos MAX_SUPPLY)) ⊎ (pos MAX_SUPPLY <ℤ supply_at net v))
HasFault net BadCost = (i : ℕ) × (i < arc_count net) × (1 < (arc_at net i).cost)

-- the faults before it in their order are not there
abbrev pub HasNoFaultBefore : NetworkModel → NetFault → Type 0
HasNoFaultBefore net TooLarge = Unit {0}
HasNoFaultBefore net BadEnd = IsSmall net
HasNoFaultBefore net BadSupply = IsSmall net × HasEnds net
HasNoFaultBefore net BadCost = IsSmall net × HasEnds net × HasSuppliesInRange net

-- the fault is the first in their order
pub record IsFirstFault (net : NetworkModel) (fault : NetFault) : Type 0 where
  pub here : HasFault net fault
  pub before : HasNoFaultBefore net fault
