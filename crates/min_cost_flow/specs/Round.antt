-- What holds of amounts, potentials and excess between two searches.
use Rattle.std.specs.Prelude.{ℕ, ◌+◌, ◌*◌, ◌<◌, ◌≤◌, ◌≡◌, ◌≢◌, ◌⊎◌, ◌==◌, if◌then◌else◌, ℤ, pos, ◌+ℤ◌, ◌≤ℤ◌, ◌<ℤ◌}
use borrow.Author.Differences.{up}
use Rattle.common.specs.Sums.{sum_below}
use Rattle.min_cost_flow.specs.Networks.{NetworkModel, node_count, arc_count, supply_at, IsInSupplyRange}
use Rattle.min_cost_flow.specs.declared.warm_start.TheConstants.{MAX_CARRIED}
use Rattle.min_cost_flow.specs.Flow.{Flow, HasPotentials}
use Rattle.min_cost_flow.specs.Excess.{IsWithinCaps, HasExcess}

-- what remains to be sent
abbrev pub remaining_units : NetworkModel → (ℕ → ℤ) → ℕ
remaining_units net e = sum_below (node_count net) (λ v. up (e v))

-- amounts x within the capacities leave the excess e, the potentials p show that they cost least, and all numbers
-- keep their bounds
pub record IsRound (net : NetworkModel) (x : ℕ → ℕ) (p e : ℕ → ℤ) : Type 0 where
  pub leaves : HasExcess net x e
  pub caps : IsWithinCaps net x
  pub priced : HasPotentials net x p
  pub low : (v : ℕ) → v < node_count net → (pos 0 ≤ℤ (p v +ℤ pos (2 * node_count net))) × (p v ≤ℤ pos (2 * node_count net))
  pub zero : (v : ℕ) → v < node_count net → e v <ℤ pos 0 → p v ≡ pos 0
  pub in_range : (v : ℕ) → v < node_count net → IsInSupplyRange (e v)
  pub capacity : (i : ℕ) → i < arc_count net → x i + remaining_units net e ≤ MAX_CARRIED

-- how many arcs carry units
abbrev pub carrying : NetworkModel → (ℕ → ℕ) → ℕ
carrying net x = sum_below (arc_count net) (λ i. if x i == 0 then 0 else 1)

-- what units that go from one node to another leave: no excess anew, and less in all
pub record IsLess (net : NetworkModel) (e e' : ℕ → ℤ) : Type 0 where
  pub less : remaining_units net e' < remaining_units net e
  pub done : (v : ℕ) → v < node_count net → e v ≤ℤ pos 0 → e' v ≤ℤ pos 0

-- all that is supplied
abbrev pub supply_sum : NetworkModel → ℕ
supply_sum net = remaining_units net (λ v. supply_at net v)

-- some node supplies or wants units
abbrev pub HasSupply : NetworkModel → Type 0
HasSupply net = (v : ℕ) × (v < node_count net) × (supply_at net v ≢ pos 0)

-- the potentials are at most twice the number of nodes in absolute value
abbrev pub AreInBounds : NetworkModel → (ℕ → ℤ) → Type 0
AreInBounds net p = (v : ℕ) → v < node_count net → (pos 0 ≤ℤ (p v +ℤ pos (2 * node_count net))) × (p v ≤ℤ pos (2 * node_count net))

-- how much work has been done by the time that amounts x leave the excess e
pub record IsWork (net : NetworkModel) (x : ℕ → ℕ) (e : ℕ → ℤ) (searches looks : ℕ) : Type 0 where
  pub few : searches + remaining_units net e ≤ supply_sum net
  pub bounded : looks ≤ searches * (2 * arc_count net)
  pub carried : carrying net x ≤ looks
  pub begun : (1 ≤ searches) ⊎ ((v : ℕ) → v < node_count net → e v ≡ supply_at net v)

-- what is so at the end: x is a flow, p shows that it costs least, and the work keeps its bounds
pub record IsRoundDone (net : NetworkModel) (x : ℕ → ℕ) (p : ℕ → ℤ) (searches looks : ℕ) : Type 0 where
  pub flow : Flow net x
  pub potentials : HasPotentials net x p
  pub in_bounds : AreInBounds net p
  pub few : searches ≤ supply_sum net
  pub bounded : looks ≤ searches * (2 * arc_count net)
  pub carried : carrying net x ≤ looks
  pub begun : HasSupply net → 1 ≤ searches
