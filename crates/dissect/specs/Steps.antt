-- How a map gets its bends: one subdivision a turn, edge by edge.
use Rattle.std.specs.Prelude.{ℕ, ◌+◌, ◌%◌, ◌<◌, ◌≤◌, List, [], ◌∷◌}
use Rattle.faces.specs.Planes.{PlaneModel, darts, reverse_dart}
use Rattle.ortho_rep.specs.declared.turn_strings.Turn.{Turn}
use Rattle.ortho_rep.specs.declared.turn_strings.Turn.TheVariants.{Left, Right}
use Rattle.dissect.specs.DartMaps.{DartMap, IsSubdivided}

-- the angle on the left of a walk that makes this turn, in right angles
abbrev pub angle_of : Turn → ℕ
angle_of Left = 1
angle_of Right = 3

-- the direction in which the walk along e sets out: opposite to that in which e's reverse arrives
abbrev pub start_direction : DartMap → ℕ → ℕ
start_direction w e = (w.direction (w.reverse_dart e) + 2) % 4

-- the edge of the dart e gets these turns, in walking order
pub data IsBent (e : ℕ) : DartMap → List Turn → DartMap → Type 0 where
  straight : (w : DartMap) → IsBent e w [] w
  turned : (w mid new : DartMap) (turn : Turn) (turns : List Turn) → IsSubdivided w e (start_direction w e) (angle_of turn) mid
      → IsBent e mid turns new → IsBent e w (turn ∷ turns) new

-- each edge of the plane p whose lesser dart is k or comes after k gets the turns of that dart
pub data AreBent (p : PlaneModel) (s : ℕ → List Turn) : ℕ → DartMap → DartMap → Type 0 where
  finished : (k : ℕ) (w : DartMap) → darts p ≤ k → AreBent p s k w w
  passed : (k : ℕ) (w new : DartMap) → reverse_dart p k ≤ k → AreBent p s (k + 1) w new → AreBent p s k w new
  bent : (k : ℕ) (w mid new : DartMap) → k < darts p → k < reverse_dart p k → IsBent k w (s k) mid → AreBent p s (k + 1) mid new
      → AreBent p s k w new
