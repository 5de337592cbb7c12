-- Directions of the darts of a plane: where each arrives at its head, given angles a and strings s of turns.
use Rattle.std.specs.Prelude.{◌≡◌, ℕ, ◌+◌, ◌%◌, ◌<◌, List}
use Rattle.faces.specs.Planes.{PlaneModel, darts, reverse_dart, next}
use Rattle.ortho_rep.specs.declared.turn_strings.Turn.{Turn}
use Rattle.ortho_rep.specs.Turns.{lefts, rights}

-- h d is the direction in which the dart d arrives at its head: 0 to 3, quarter turns to the left from east
pub record AreDirections (p : PlaneModel) (a : ℕ → ℕ) (s : ℕ → List Turn) (h : ℕ → ℕ) : Type 0 where
  pub quarter : (d : ℕ) → d < darts p → h d < 4
  -- the dart that arrives next clockwise at the same vertex has turned right by the angle
  pub angles : (d : ℕ) → d < darts p → (h (reverse_dart p (next p d)) + a d) % 4 ≡ h d
  -- a dart sets out opposite to the arrival of its reverse, and turns as its string says
  pub strings : (d : ℕ) → d < darts p → (h (reverse_dart p d) + 2 + lefts (s d)) % 4 ≡ (h d + rights (s d)) % 4
