-- When a network surely has a flow: each excess can reach each deficit along arcs that
-- carry any number of units.
use Rattle.std.specs.Prelude.{ℕ, ◌<◌, ◌≡◌, ℤ, pos, ◌<ℤ◌, Bool, true}
use Rattle.common.specs.Sums.{total_below}
use Rattle.min_cost_flow.specs.declared.network.Cap.TheVariants.{Any}
use Rattle.min_cost_flow.specs.Networks.{NetworkModel, node_count, arc_count, arc_at, supply_at}

-- no unlimited arc leads out of the set
pub record IsClosedAny (net : NetworkModel) (s : ℕ → Bool) : Type 0 where
  pub stays : (i : ℕ) → i < arc_count net → (arc_at net i).cap ≡ Any → s (arc_at net i).from ≡ true → s (arc_at net i).to ≡ true

-- each set that no unlimited arc leaves, and that has a node with an excess, has
-- every node with a deficit
pub record HasUnlimitedPaths (net : NetworkModel) (e : ℕ → ℤ) : Type 0 where
  pub meets : (s : ℕ → Bool) → IsClosedAny net s → (u v : ℕ) → u < node_count net → v < node_count net → s u ≡ true → pos 0 <ℤ e u → e v <ℤ pos 0 → s v ≡ true

-- as much is supplied as is wanted
abbrev pub SuppliesSumToZero : NetworkModel → Type 0
SuppliesSumToZero net = total_below (node_count net) (λ v. supply_at net v) ≡ pos 0
