-- Darts that turn to one side only: what is kept of each, and what shape they have.
use Rattle.std.specs.Prelude.{◌≡◌, ℕ, ◌<◌, ◌≤◌, List, map, length, replicate, All}
use Rattle.embedding.specs.declared.graphs.TheConstants.{MAX_DARTS}
use Rattle.ortho_rep.specs.declared.turn_strings.Turn.{Turn}
use Rattle.ortho_rep.specs.declared.turn_strings.TheConstants.{MAX_REPEATS}
use Rattle.ortho_rep.specs.declared.turn_strings.DartShape.{DartShape}
use Rattle.ortho_rep.specs.Shapes.{ShapeModel, angle_at, turns_at}

-- the turns of a dart
abbrev pub turns_in : DartShape → List Turn
turns_in dart = replicate dart.count dart.turn

-- the shape of these darts
abbrev pub shape_in : List DartShape → ShapeModel
shape_in darts = record { angles = map (λ dart. dart.angle) darts; strings = map turns_in darts }

-- at most 4,800 darts, each with at most 28,824 turns
pub record AreRepeats (darts : List DartShape) : Type 0 where
  pub few : length darts ≤ MAX_DARTS
  pub short : All (λ dart. dart.count ≤ MAX_REPEATS) darts

-- the first n darts have the angles a and the strings s
pub record HaveShapes (a : ℕ → ℕ) (s : ℕ → List Turn) (n : ℕ) (found : List DartShape) : Type 0 where
  pub count : length found ≡ n
  pub angle : (d : ℕ) → d < n → angle_at (shape_in found) d ≡ a d
  pub turns : (d : ℕ) → d < n → turns_at (shape_in found) d ≡ s d
