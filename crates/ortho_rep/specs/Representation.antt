-- Orthogonal representations of a plane: angles a and strings s of turns, by dart. Strings have any
-- length. Faces lie on the left of their darts.
use Rattle.std.specs.Prelude.{◌≡◌, ℕ, ◌<◌, ◌≤◌, ◌/◌, ◌==◌, if◌then◌else◌, ℤ, pos, negsuc, ◌+ℤ◌, ◌-ℤ◌, List, length}
use Rattle.common.specs.Sums.{sum_below, total_below}
use Rattle.faces.specs.Planes.{PlaneModel, darts, vertices, head, reverse_dart, face_at}
use Rattle.ortho_rep.specs.declared.turn_strings.Turn.{Turn}
use Rattle.ortho_rep.specs.Turns.{mirrored, lefts, rights}
use Rattle.ortho_rep.specs.Shapes.{ShapeModel, angle_at, turns_at}

-- the quarter turns to the left, less those to the right, that a dart of angle a with these turns gives its face:
-- its string's, and 2 - a at its head
abbrev pub turning_of : ℕ → List Turn → ℤ
turning_of angle turns = pos 2 -ℤ pos angle +ℤ pos (lefts turns) -ℤ pos (rights turns)

-- the sum of the angles of the darts that arrive at vertex v
abbrev pub angles_around : PlaneModel → (ℕ → ℕ) → ℕ → ℕ
angles_around p a v = sum_below (darts p) (λ d. if head p d == v then a d else 0)

-- the sum of the turnings of the darts of face f
abbrev pub turning_around : PlaneModel → (ℕ → ℕ) → (ℕ → List Turn) → ℕ → ℤ
turning_around p a s f = total_below (darts p) (λ d. if face_at p d == f then turning_of (a d) (s d) else pos 0)

-- one turn to the left round an inner face, one to the right round the outer face
abbrev pub whole_turn : PlaneModel → ℕ → ℤ
whole_turn p f = if f == p.outer then negsuc 3 else pos 4

-- an orthogonal representation of p with its outer face
pub record Rep (p : PlaneModel) (a : ℕ → ℕ) (s : ℕ → List Turn) : Type 0 where
  pub angles : (d : ℕ) → d < darts p → (1 ≤ a d) × (a d ≤ 4)
  pub strings : (d : ℕ) → d < darts p → s (reverse_dart p d) ≡ mirrored (s d)
  pub around : (v : ℕ) → 1 ≤ v → v ≤ vertices p → angles_around p a v ≡ 4
  pub faces : (f : ℕ) → f < p.faces → turning_around p a s f ≡ whole_turn p f

-- the bends of n darts: half the sum of the lengths of their strings, since a dart and its reverse share theirs
abbrev pub bends_of : ℕ → (ℕ → List Turn) → ℕ
bends_of n s = sum_below n (λ d. length (s d)) / 2

-- a representation, and each representation of p has at least as many bends
pub record Least (p : PlaneModel) (a : ℕ → ℕ) (s : ℕ → List Turn) : Type 0 where
  pub rep : Rep p a s
  pub least : (b : ℕ → ℕ) (t : ℕ → List Turn) → Rep p b t → bends_of (darts p) s ≤ bends_of (darts p) t

-- a shape has an angle and a string for each dart
pub record HasDarts (p : PlaneModel) (shape : ShapeModel) : Type 0 where
  pub angles : length shape.angles ≡ darts p
  pub strings : length shape.strings ≡ darts p

-- a shape with an angle and a string for each dart, which are an orthogonal representation
pub record IsShape (p : PlaneModel) (shape : ShapeModel) : Type 0 where
  pub lengths : HasDarts p shape
  pub rep : Rep p (angle_at shape) (turns_at shape)

-- that shape has the fewest bends
abbrev pub IsLeast : PlaneModel → ShapeModel → Type 0
IsLeast p shape = Least p (angle_at shape) (turns_at shape)
