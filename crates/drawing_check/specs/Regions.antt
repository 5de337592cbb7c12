-- What it is that the regions into which a drawing cuts the plane are the faces, each on the left of its darts, and that
-- the outer face is outside.
--
-- A cell is a unit square of the plane, named by its upper right corner: cell (x, y) reaches from x - 1 to x and from
-- y - 1 to y. Coordinates of points begin at 0, so column 0 lies west of all points and row 0 south of them. Cells still
-- further west or south touch no point and no edge: they join those and have no name.
use Rattle.std.specs.Prelude.{◌≡◌, ℕ, ◌+◌, ◌<◌, ◌≤◌, List, length}
use Rattle.faces.specs.Planes.{PlaneModel, darts, reverse_dart, face_at}
use Rattle.ortho_rep.specs.declared.grid_points.Point.{Point}
use Rattle.ortho_rep.specs.Points.{PointsModel}
use Rattle.drawing_check.specs.Paths.{dart_path, point_of}

-- part k of a path goes north along the unit side from (x, y - 1) to (x, y): on line x, from below y to y or further
abbrev pub GoesNorth : List Point → ℕ → ℕ → ℕ → Type 0
GoesNorth path k x y =
    (k + 1 < length path)
    × ((point_of path k).x ≡ x) × ((point_of path (k + 1)).x ≡ x)
    × ((point_of path k).y < y) × (y ≤ (point_of path (k + 1)).y)

-- part k of a path goes east along the unit side from (x - 1, y) to (x, y)
abbrev pub GoesEast : List Point → ℕ → ℕ → ℕ → Type 0
GoesEast path k x y =
    (k + 1 < length path)
    × ((point_of path k).y ≡ y) × ((point_of path (k + 1)).y ≡ y)
    × ((point_of path k).x < x) × (x ≤ (point_of path (k + 1)).x)

-- dart d passes the side between cells (x, y) and (x + 1, y), northward. Of an edge that passes it one dart does
abbrev pub PassesNorth : PlaneModel → PointsModel → ℕ → ℕ → ℕ → Type 0
PassesNorth p points d x y = (k : ℕ) × (d < darts p) × GoesNorth (dart_path p points d) k x y

-- dart d passes the side between cells (x, y) and (x, y + 1), eastward
abbrev pub PassesEast : PlaneModel → PointsModel → ℕ → ℕ → ℕ → Type 0
PassesEast p points d x y = (k : ℕ) × (d < darts p) × GoesEast (dart_path p points d) k x y

-- a map that gives each cell the face in which it lies
pub record IsRegionMap (p : PlaneModel) (points : PointsModel) (r : ℕ → ℕ → ℕ) : Type 0 where
  -- west of a dart that goes north lies its face, east of it that of its reverse
  pub north : (d x y : ℕ) → PassesNorth p points d x y → (r x y ≡ face_at p d) × (r (x + 1) y ≡ face_at p (reverse_dart p d))
  -- north of a dart that goes east lies its face, south of it that of its reverse
  pub east : (d x y : ℕ) → PassesEast p points d x y → (r x (y + 1) ≡ face_at p d) × (r x y ≡ face_at p (reverse_dart p d))
  -- neighbours with no edge between them lie in one face
  pub beside : (x y : ℕ) → ((d : ℕ) → ¬ PassesNorth p points d x y) → r x y ≡ r (x + 1) y
  pub above : (x y : ℕ) → ((d : ℕ) → ¬ PassesEast p points d x y) → r x y ≡ r x (y + 1)
  -- west and south of all points is the outer face
  pub west : (y : ℕ) → r 0 y ≡ p.outer
  pub south : (x : ℕ) → r x 0 ≡ p.outer

-- the regions are the faces: there is such a map
abbrev pub HasRegions : PlaneModel → PointsModel → Type 0
HasRegions p points = (r : ℕ → ℕ → ℕ) × IsRegionMap p points r
