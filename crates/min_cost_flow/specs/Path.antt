-- A path of unsaturated residual arcs of reduced cost 0, from a node with an excess to one with
-- a deficit.
use Rattle.std.specs.Prelude.{ℕ, zero, suc, ◌<◌, ◌≡◌, ℤ, pos, ◌+ℤ◌, ◌-ℤ◌, Bool, true, false, List}
use Rattle.min_cost_flow.specs.declared.residual_network.ResidualArc.{ResidualArc}
use Rattle.min_cost_flow.specs.ResidualArcs.{start_at, end_at, cost_at, capacity_at, StartsAt}
use Rattle.min_cost_flow.specs.Search.{HasResidualCapacity}

-- residual arc k leads from node u to node v, has capacity, and its reduced cost is 0
pub record IsTight (arcs : List ResidualArc) (p : ℕ → ℤ) (u k v : ℕ) : Type 0 where
  pub leaves : StartsAt arcs u k
  pub has_capacity : HasResidualCapacity arcs k
  pub arrives : end_at arcs k ≡ v
  pub at_zero : cost_at arcs k +ℤ p u -ℤ p v ≡ pos 0

-- node v was reached by residual arc k, from a node of the set that has a lesser place
pub record IsAfter (arcs : List ResidualArc) (p : ℕ → ℤ) (on : ℕ → Bool) (place : ℕ → ℕ) (v k : ℕ) : Type 0 where
  pub start : ℕ
  pub member : on start ≡ true
  pub before : place start < place v
  pub step : IsTight arcs p start k v

-- residual arc `found` leads from node `last` to a node off the path, and each node of the path was
-- reached by `predecessor`, back to the root at place 0
pub record HasTightPath (n : ℕ) (arcs : List ResidualArc) (p : ℕ → ℤ) (predecessor place : ℕ → ℕ) (root found : ℕ) : Type 0 where
  pub on : ℕ → Bool
  pub node : (v : ℕ) → on v ≡ true → v < n
  pub root_is : (v : ℕ) → on v ≡ true → place v ≡ 0 → v ≡ root
  pub after : (v : ℕ) → on v ≡ true → 0 < place v → IsAfter arcs p on place v (predecessor v)
  pub last : ℕ
  pub member : on last ≡ true
  pub off : on (end_at arcs found) ≡ false
  pub step : IsTight arcs p last found (end_at arcs found)

-- ---- the way back along the path

-- the node k steps on from v
abbrev pub path_node : (ℕ → ℕ) → ℕ → ℕ → ℕ
path_node next v zero = v
path_node next v (suc k) = next (path_node next v k)

-- node w is on the way from v, and no node before it has place 0
pub record IsOnPath (next place : ℕ → ℕ) (v w : ℕ) : Type 0 where
  pub steps : ℕ
  pub at : w ≡ path_node next v steps
  pub high : (i : ℕ) → i < steps → 0 < place (path_node next v i)

-- the start of the residual arc by which a node was reached, and what fits along it
abbrev pub previous_of : List ResidualArc → (ℕ → ℕ) → ℕ → ℕ
previous_of arcs predecessor w = start_at arcs (predecessor w)

abbrev pub capacity_into : List ℕ → (ℕ → ℕ) → ℕ → ℕ
capacity_into capacities predecessor w = capacity_at capacities (predecessor w)
