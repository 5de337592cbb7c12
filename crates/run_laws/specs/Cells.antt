-- The least corner of a drawing, and which cells of the plane are joined. A cell is a unit square, named by its upper right
-- corner.
use Rattle.std.specs.Prelude.{◌≡◌, ℕ, ◌+◌, ◌<◌, ◌≤◌, ◌⊎◌, length, Bool}
use Rattle.faces.specs.Planes.{PlaneModel, darts}
use Rattle.ortho_rep.specs.declared.grid_points.Point.{Point}
use Rattle.ortho_rep.specs.Points.{PointsModel}
use Rattle.drawing_check.specs.Paths.{dart_path, point_of}
use Rattle.drawing_check.specs.Regions.{PassesNorth, PassesEast}

-- the path of dart d begins, bends or ends at the point
abbrev pub Meets : PlaneModel → PointsModel → ℕ → Point → Type 0
Meets p points d q = (k : ℕ) × (k < length (dart_path p points d)) × (point_of (dart_path p points d) k ≡ q)

-- q lies west of o, or has the same x and lies no further north
abbrev pub Precedes : Point → Point → Type 0
Precedes q o = (q.x < o.x) ⊎ ((q.x ≡ o.x) × (q.y ≤ o.y))

-- the point is the least, by x and then by y, at which any path begins, bends or ends
pub record IsLeastCorner (p : PlaneModel) (points : PointsModel) (q : Point) : Type 0 where
  pub some : (d : ℕ) × (d < darts p) × Meets p points d q
  pub least : (d : ℕ) (o : Point) → d < darts p → Meets p points d o → Precedes q o

-- a set of cells that holds both or neither of any two neighbours between which no edge passes
pub record IsUndivided (p : PlaneModel) (points : PointsModel) (s : ℕ → ℕ → Bool) : Type 0 where
  pub beside : (x y : ℕ) → ((d : ℕ) → ¬ PassesNorth p points d x y) → s x y ≡ s (x + 1) y
  pub above : (x y : ℕ) → ((d : ℕ) → ¬ PassesEast p points d x y) → s x y ≡ s x (y + 1)

-- steps between such neighbours lead from cell (i, j) to cell (k, l): each set of this kind holds both or neither
abbrev pub AreJoined : PlaneModel → PointsModel → ℕ → ℕ → ℕ → ℕ → Type 0
AreJoined p points i j k l = (s : ℕ → ℕ → Bool) → IsUndivided p points s → s i j ≡ s k l
