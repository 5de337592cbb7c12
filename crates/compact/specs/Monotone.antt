-- Coordinates that grow along the darts, on each axis, and what the faults say.
use Rattle.std.specs.Prelude.{◌≡◌, ◌≢◌, ℕ, ◌+◌, ◌<◌, ◌≤◌, List, [], ◌∷◌, length, map, slice_index, slice_index_or}
use Rattle.ortho_rep.specs.declared.grid_points.TheConstants.{MAX_COORDINATE}
use Rattle.dissect.specs.DartMaps.{DartMap, IsSound}
use Rattle.dissect.specs.Paths.{turning_vertices}
use Rattle.ortho_rep.specs.declared.grid_points.Point.{Point}
use Rattle.dissect.specs.Boxes.{BoxesModel, HasEdge, dart_map}
pub use Rattle.dissect.specs.DirectionLists.{AreDirectionsOf}
pub use Rattle.dissect.specs.Monotone.{tail, IsMonotone, AreWithin, point_at, AreTaken, AreLeastPoints, FitsNoGrid}
use Rattle.compact.specs.declared.axis.Axis.{Axis}
use Rattle.compact.specs.declared.axis.Axis.TheVariants.{X, Y}
use Rattle.compact.specs.declared.axis.Constraint.{Constraint}
use Rattle.compact.specs.Constraints.{Satisfies, AreInRange}
use Rattle.compact.specs.declared.points.CompactFault.{CompactFault}
use Rattle.compact.specs.declared.points.CompactFault.TheVariants.{Wide, Memory}

-- what a fault says
abbrev pub IsCompactFault : BoxesModel → CompactFault → Type 0
IsCompactFault b Wide = FitsNoGrid b
IsCompactFault b Memory = Unit {0}

-- a direction runs neither along the axis of growth k nor against it
abbrev pub IsAcross : ℕ → ℕ → Type 0
IsAcross k d = (d ≢ k) × (d ≢ k + 2)

-- along one axis, whose direction of growth has the number k: a dart that way has a constraint of 1 or more, and the ends of a
-- dart across have one coordinate
pub record IsAlong (w : DartMap) (k : ℕ) (x : ℕ → ℕ) : Type 0 where
  pub forward : (a : ℕ) → a < w.darts → w.direction a ≡ k → x (tail w a) + 1 ≤ x (w.head a)
  pub across : (a : ℕ) → a < w.darts → w.direction a ≢ k → w.direction a ≢ k + 2 → x (tail w a) ≤ x (w.head a)

-- the constraints say the same of the first darts
pub record AreAlong (w : DartMap) (k : ℕ) (darts : ℕ) (constraints : List Constraint) : Type 0 where
  pub inside : AreInRange w.vertices constraints
  pub forward : (x : ℕ → ℕ) → Satisfies constraints x → (a : ℕ) → a < darts → w.direction a ≡ k → x (tail w a) + 1 ≤ x (w.head a)
  pub across : (x : ℕ → ℕ) → Satisfies constraints x → (a : ℕ) → a < darts → w.direction a ≢ k → w.direction a ≢ k + 2
      → x (tail w a) ≤ x (w.head a)
  pub no_more : (x : ℕ → ℕ) → IsAlong w k x → Satisfies constraints x

-- the number of the direction in which an axis grows
abbrev pub growth : Axis → ℕ
growth X = 0
growth Y = 1

-- the number of the direction a quarter turn to the left of it
abbrev pub across : Axis → ℕ
across X = 1
across Y = 2

-- the least coordinates of the vertices that grow along the darts of an axis, within the grid
pub record AreLeastOnAxis (b : BoxesModel) (k : ℕ) (coordinates : List ℕ) : Type 0 where
  pub along : IsAlong (dart_map b) k (λ v. slice_index coordinates v)
  pub least : (y : ℕ → ℕ) → IsAlong (dart_map b) k y → (v : ℕ) → v < b.vertices → slice_index coordinates v ≤ y v
  pub within : AreWithin b.vertices (λ v. slice_index coordinates v)
  pub count : length coordinates ≡ b.vertices

-- what a fault says of one axis
abbrev pub IsAxisFault : BoxesModel → ℕ → CompactFault → Type 0
IsAxisFault b k Wide = IsSound (dart_map b) × ((x : ℕ → ℕ) → IsAlong (dart_map b) k x → (v : ℕ) × (v < b.vertices) × (MAX_COORDINATE < x v))
IsAxisFault b k Memory = Unit {0}

-- the vertices at which the walk along these darts turns, in order
abbrev pub vertices_along : DartMap → List ℕ → List ℕ
vertices_along w [] = []
vertices_along w (a ∷ bs) = turning_vertices w a bs

-- the points are the corners of the edge e, in order
abbrev pub AreCornersOf : BoxesModel → (ℕ → ℕ) → (ℕ → ℕ) → ℕ → List Point → Type 0
AreCornersOf b x y e points = (edge : HasEdge b e) → points ≡ map (point_at x y) (turning_vertices (dart_map b) edge.first edge.rest)

-- the lists have the corners of the first n edges, in order
abbrev pub AreCorners : BoxesModel → (ℕ → ℕ) → (ℕ → ℕ) → ℕ → List (List Point) → Type 0
AreCorners b x y n lists = (e : ℕ) → e < n → AreCornersOf b x y e (slice_index_or lists e [])
