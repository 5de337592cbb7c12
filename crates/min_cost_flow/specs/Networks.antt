-- What a network is: nodes with supplies, arcs with capacities and costs.
use Rattle.std.specs.Prelude.{ℕ, ◌<◌, ◌≤◌, ℤ, pos, ◌+ℤ◌, ◌-ℤ◌, ◌≤ℤ◌, List, length, slice_index_or, slice_set}
use Rattle.min_cost_flow.specs.declared.network.TheConstants.{MAX_ARCS, MAX_NODES}
use Rattle.min_cost_flow.specs.declared.network.TheConstants.{MAX_SUPPLY}
use Rattle.min_cost_flow.specs.declared.network.Arc.{Arc}
use Rattle.min_cost_flow.specs.declared.network.Cap.TheVariants.{AtMost}

-- what callers see of a `Network`: a supply for each node, and the arcs; nodes and arcs are numbered from 0
pub record NetworkModel : Type 0 where
  pub supplies : List ℤ
  pub arcs : List Arc

abbrev pub net_of : List ℤ → List Arc → NetworkModel
net_of supplies arcs = record { supplies = supplies; arcs = arcs }

abbrev pub node_count : NetworkModel → ℕ
node_count net = length net.supplies

abbrev pub arc_count : NetworkModel → ℕ
arc_count net = length net.arcs

-- stands for arcs past the last
abbrev pub no_arc : Arc
no_arc = record { from = 0; to = 0; cap = AtMost 0; cost = 0 }

abbrev pub arc_at : NetworkModel → ℕ → Arc
arc_at net i = slice_index_or net.arcs i no_arc

abbrev pub supply_at : NetworkModel → ℕ → ℤ
supply_at net v = slice_index_or net.supplies v (pos 0)

abbrev pub IsSmall : NetworkModel → Type 0
IsSmall net = (node_count net ≤ MAX_NODES) × (arc_count net ≤ MAX_ARCS)

-- both ends of each arc are nodes
abbrev pub HasEnds : NetworkModel → Type 0
HasEnds net = (i : ℕ) → i < arc_count net → ((arc_at net i).from < node_count net) × ((arc_at net i).to < node_count net)

-- at most as many units as a node may supply or want
abbrev pub IsInSupplyRange : ℤ → Type 0
IsInSupplyRange units = ((pos 0 -ℤ pos MAX_SUPPLY) ≤ℤ units) × (units ≤ℤ pos MAX_SUPPLY)

-- no node supplies or wants more than it may
abbrev pub HasSuppliesInRange : NetworkModel → Type 0
HasSuppliesInRange net = (v : ℕ) → v < node_count net → IsInSupplyRange (supply_at net v)

-- each arc costs 0 or 1 a unit
abbrev pub HasUnitCosts : NetworkModel → Type 0
HasUnitCosts net = (i : ℕ) → i < arc_count net → (arc_at net i).cost ≤ 1

-- what holds of each `Network`
pub record IsNetwork (net : NetworkModel) : Type 0 where
  pub small : IsSmall net
  pub ends : HasEnds net
  pub supplies : HasSuppliesInRange net
  pub costs : HasUnitCosts net

-- k units more at one place, and k fewer at another
abbrev pub raised : List ℤ → ℕ → ℕ → List ℤ
raised units v k = slice_set units v (slice_index_or units v (pos 0) +ℤ pos k)

abbrev pub lowered : List ℤ → ℕ → ℕ → List ℤ
lowered units v k = slice_set units v (slice_index_or units v (pos 0) -ℤ pos k)

abbrev pub moved : List ℤ → ℕ → ℕ → ℕ → List ℤ
moved units from to k = lowered (raised units from k) to k

-- node `from` supplies k units more, and node `to` k units less
abbrev pub shifted : NetworkModel → ℕ → ℕ → ℕ → NetworkModel
shifted net from to k = net_of (moved net.supplies from to k) net.arcs
