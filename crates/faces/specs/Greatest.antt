-- The face of greatest degree.
use Rattle.std.specs.Prelude.{ℕ, ◌<◌, ◌≤◌}
use Rattle.faces.specs.Faces.{degree_in}

-- of this many faces none has more of the n darts, and none before it has as many
pub record IsFirstGreatest (n : ℕ) (face : ℕ → ℕ) (count greatest : ℕ) : Type 0 where
  pub named : greatest < count
  pub most : (k : ℕ) → k < count → degree_in n face k ≤ degree_in n face greatest
  pub first : (k : ℕ) → k < greatest → degree_in n face k < degree_in n face greatest
