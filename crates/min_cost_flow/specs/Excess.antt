-- Amounts on the way to a flow: what each node still has to send out, or still wants.
use Rattle.std.specs.Prelude.{ℕ, zero, suc, ◌<◌, ◌==◌, ◌≡◌, ℤ, pos, ◌+ℤ◌, ◌<ℤ◌, Bool, true, if◌then◌else◌}
use Rattle.min_cost_flow.specs.Networks.{NetworkModel, node_count, arc_count, arc_at, supply_at}
use Rattle.min_cost_flow.specs.Flow.{net_outflow, IsWithinCap, IsResidual, start_of, end_of}

abbrev pub IsWithinCaps : NetworkModel → (ℕ → ℕ) → Type 0
IsWithinCaps net x = (i : ℕ) → i < arc_count net → IsWithinCap (arc_at net i).cap (x i)

-- x leaves each node v the excess e v; below 0 it is a deficit
pub record HasExcess (net : NetworkModel) (x : ℕ → ℕ) (e : ℕ → ℤ) : Type 0 where
  pub at_node : (v : ℕ) → v < node_count net → net_outflow net x v +ℤ e v ≡ supply_at net v

-- the same, but v has sent out k units that have not come to it yet
pub record Carries (net : NetworkModel) (x : ℕ → ℕ) (e : ℕ → ℤ) (v k : ℕ) : Type 0 where
  pub at_node : (w : ℕ) → w < node_count net → net_outflow net x w +ℤ e w ≡ supply_at net w +ℤ pos (if v == w then k else 0)

-- no unsaturated residual arc leads out of the set
pub record IsClosedOut (net : NetworkModel) (x : ℕ → ℕ) (s : ℕ → Bool) : Type 0 where
  pub stays : (i : ℕ) (back : Bool) → i < arc_count net → IsResidual net x i back → s (start_of net i back) ≡ true → s (end_of net i back) ≡ true

-- no unsaturated residual arc leads into the set
pub record IsClosedIn (net : NetworkModel) (x : ℕ → ℕ) (s : ℕ → Bool) : Type 0 where
  pub stays : (i : ℕ) (back : Bool) → i < arc_count net → IsResidual net x i back → s (end_of net i back) ≡ true → s (start_of net i back) ≡ true

-- a residual path from u to v: k unsaturated residual arcs
abbrev pub IsResidualPath : NetworkModel → (ℕ → ℕ) → ℕ → ℕ → ℕ → Type 0
IsResidualPath net x u v zero = u ≡ v
IsResidualPath net x u v (suc k) = (i : ℕ) × (back : Bool) × (i < arc_count net) × IsResidual net x i back × (end_of net i back ≡ v) × IsResidualPath net x u (start_of net i back) k

-- no residual path leads from a node with an excess to one with a deficit
pub record HasNoAugmentingPath (net : NetworkModel) (x : ℕ → ℕ) (e : ℕ → ℤ) : Type 0 where
  pub apart : (u v k : ℕ) → u < node_count net → v < node_count net → pos 0 <ℤ e u → e v <ℤ pos 0 → IsResidualPath net x u v k → ⊥
