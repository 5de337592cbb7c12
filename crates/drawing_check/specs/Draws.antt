-- What it is that points draw a shape of a plane: four conditions, on the points and on the paths of the edges.
use Rattle.std.specs.Prelude.{◌≡◌, ◌≢◌, ℕ, ◌+◌, ◌*◌, ◌<◌, ◌≤◌, ◌⊎◌, List, ◌++◌, length, nat_lt, slice_index_or, if◌then◌else◌, All}
use Rattle.std.specs.List.{flat_map}
use Rattle.ortho_rep.specs.declared.grid_points.TheConstants.{MAX_COORDINATE}
use Rattle.geometry.specs.declared.direction.Direction.{Direction}
use Rattle.geometry.specs.declared.direction.Direction.TheVariants.{East, North, West, South}
use Rattle.geometry.specs.Directions.{left_of, right_of, left_quarters}
use Rattle.faces.specs.Planes.{PlaneModel, vertices, darts, reverse_dart, next}
use Rattle.ortho_rep.specs.declared.turn_strings.Turn.{Turn}
use Rattle.ortho_rep.specs.declared.turn_strings.Turn.TheVariants.{Left, Right}
use Rattle.ortho_rep.specs.declared.grid_points.Point.{Point}
use Rattle.ortho_rep.specs.Shapes.{ShapeModel, angle_at, turns_at}
use Rattle.ortho_rep.specs.Points.{PointsModel}
use Rattle.ortho_rep.specs.Edges.{lesser_darts}
use Rattle.drawing_check.specs.Paths.{path_along, paths, dart_path, point_of}
use Rattle.drawing_check.specs.Walks.{interior, AreDistinct}

-- there is a point for each vertex, and a list of corners for each edge
pub record HasPoints (plane : PlaneModel) (points : PointsModel) : Type 0 where
  pub vertex_count : length points.vertices ≡ vertices plane
  pub edge_count : 2 * length points.corners ≡ darts plane

-- ---- 1. every coordinate is 0 to 65,535

abbrev pub IsInGrid : Point → Type 0
IsInGrid point = (point.x ≤ MAX_COORDINATE) × (point.y ≤ MAX_COORDINATE)

pub record AreInGrid (points : PointsModel) : Type 0 where
  pub ends : All IsInGrid points.vertices
  pub bends : All (All IsInGrid) points.corners

-- ---- 2. consecutive points of a path differ in exactly one coordinate

abbrev pub IsAxis : Point → Point → Type 0
IsAxis a b = ((a.x ≡ b.x) × (a.y ≢ b.y)) ⊎ ((a.x ≢ b.x) × (a.y ≡ b.y))

abbrev pub IsOnAxes : List Point → Type 0
IsOnAxes path = (k : ℕ) → k + 1 < length path → IsAxis (point_of path k) (point_of path (k + 1))

abbrev pub AreOnAxes : List (List Point) → Type 0
AreOnAxes ps = All IsOnAxes ps

-- ---- 3. the turns at corners and the angles at heads are those of the shape

-- where b lies from a, if the two differ in one coordinate
abbrev pub direction_between : Point → Point → Direction
direction_between a b =
    if nat_lt a.x b.x then East else (if nat_lt b.x a.x then West else (if nat_lt a.y b.y then North else South))

-- the direction of part k of a path
abbrev pub direction_of : List Point → ℕ → Direction
direction_of path k = direction_between (point_of path k) (point_of path (k + 1))

abbrev pub turned : Turn → Direction → Direction
turned Left direction = left_of direction
turned Right direction = right_of direction

-- as many corners as turns, and each corner turns as said
pub record IsTurning (path : List Point) (turns : List Turn) : Type 0 where
  pub corners : length path ≡ length turns + 2
  pub each : (k : ℕ) → k < length turns
      → direction_of path (k + 1) ≡ turned (slice_index_or turns k Left) (direction_of path k)

-- the direction in which dart d leaves its tail
abbrev pub leaving : PlaneModel → PointsModel → ℕ → Direction
leaving p points d = direction_of (dart_path p points d) 0

-- The angle of a dart lies at its head on the left, between the next dart of its face and the way back along its
-- reverse: the way back is this many quarters to the left of the next dart. So the direction turns by 2 less the
-- angle, in left quarters, from a dart to the next.
pub record TurnAsSaid (p : PlaneModel) (shape : ShapeModel) (points : PointsModel) : Type 0 where
  pub edges : All (λ d. IsTurning (path_along p points d) (turns_at shape d)) (lesser_darts p)
  pub heads : (d : ℕ) → d < darts p
      → leaving p points (reverse_dart p d) ≡ left_quarters (angle_at shape d) (leaving p points (next p d))

-- ---- 4. the list of all vertex points and of all points met between the ends of paths has no repeat

abbrev pub MeetNowhere : PointsModel → List (List Point) → Type 0
MeetNowhere points ps = AreDistinct (points.vertices ++ flat_map interior ps)

-- the points draw the shape
pub record Draws (p : PlaneModel) (shape : ShapeModel) (points : PointsModel) : Type 0 where
  pub grid : AreInGrid points
  pub axes : AreOnAxes (paths p points)
  pub turns : TurnAsSaid p shape points
  pub apart : MeetNowhere points (paths p points)
