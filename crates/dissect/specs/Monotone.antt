-- Numbers that grow along the darts, and the points that are taken from them.
use Rattle.std.specs.Prelude.{◌≡◌, ℕ, ◌<◌, ◌≤◌, ◌⊎◌, map, length}
use Rattle.std.specs.List.{range_with_len}
use Rattle.ortho_rep.specs.declared.grid_points.TheConstants.{MAX_COORDINATE}
use Rattle.dissect.specs.DartMaps.{DartMap}
use Rattle.dissect.specs.Paths.{turning_vertices}
use Rattle.ortho_rep.specs.declared.grid_points.Point.{Point}
use Rattle.ortho_rep.specs.Points.{PointsModel, corners_at}
use Rattle.dissect.specs.Boxes.{BoxesModel, HasEdge, dart_map}

-- the vertex that a dart comes from
abbrev pub tail : DartMap → ℕ → ℕ
tail w a = w.head (w.reverse_dart a)

-- along a dart to the east x grows and y stays, along a dart to the north y grows and x stays; so the other way
-- round to the west and south
pub record IsMonotone (w : DartMap) (x y : ℕ → ℕ) : Type 0 where
  pub east : (a : ℕ) → a < w.darts → w.direction a ≡ 0 → (x (tail w a) < x (w.head a)) × (y (tail w a) ≡ y (w.head a))
  pub north : (a : ℕ) → a < w.darts → w.direction a ≡ 1 → (y (tail w a) < y (w.head a)) × (x (tail w a) ≡ x (w.head a))

-- the numbers of the first n vertices are within the grid
abbrev pub AreWithin : ℕ → (ℕ → ℕ) → Type 0
AreWithin n x = (v : ℕ) → v < n → x v ≤ MAX_COORDINATE

-- the point of a vertex
abbrev pub point_at : (ℕ → ℕ) → (ℕ → ℕ) → ℕ → Point
point_at x y v = record { x = x v; y = y v }

-- the points of the plane's vertices, and along each of its edges those of the places where its path turns, in order
pub record AreTaken (b : BoxesModel) (x y : ℕ → ℕ) (points : PointsModel) : Type 0 where
  pub vertices : points.vertices ≡ map (point_at x y) (range_with_len 0 b.old)
  pub vertex_count : length points.vertices ≡ b.old
  pub count : length points.corners ≡ length b.edges
  pub corners : (e : ℕ) → e < length b.edges → (edge : HasEdge b e)
      → corners_at points e ≡ map (point_at x y) (turning_vertices (dart_map b) edge.first edge.rest)

-- the points are taken from the least numbers that grow along the darts, and those are within the grid
pub record AreLeastPoints (b : BoxesModel) (points : PointsModel) : Type 0 where
  pub x : ℕ → ℕ
  pub y : ℕ → ℕ
  pub monotone : IsMonotone (dart_map b) x y
  -- lengths of longest paths
  pub x_least : (x1 y1 : ℕ → ℕ) → IsMonotone (dart_map b) x1 y1 → (v : ℕ) → v < b.vertices → x v ≤ x1 v
  pub y_least : (x1 y1 : ℕ → ℕ) → IsMonotone (dart_map b) x1 y1 → (v : ℕ) → v < b.vertices → y v ≤ y1 v
  pub x_within : AreWithin b.vertices x
  pub y_within : AreWithin b.vertices y
  pub taken : AreTaken b x y points

-- no numbers that grow along the darts are all within the grid
abbrev pub FitsNoGrid : BoxesModel → Type 0
FitsNoGrid b = (x y : ℕ → ℕ) → IsMonotone (dart_map b) x y
    → (v : ℕ) × (v < b.vertices) × ((MAX_COORDINATE < x v) ⊎ (MAX_COORDINATE < y v))
