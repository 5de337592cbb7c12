-- Which condition of a drawing is the first to fail, and at which place. Edges are numbered from 0 in the order of their
-- lesser darts, vertices from 1. The path of an edge is walked along its lesser dart: point 0 is its tail, corner k is
-- point k + 1, and part k leads from point k to point k + 1.
use Rattle.std.specs.Prelude.{◌≡◌, ◌≢◌, ℕ, ◌+◌, ◌*◌, ◌<◌, ◌≤◌, ◌⊎◌, List, [], length, slice_index_or, All, ⊤}
use Rattle.geometry.specs.Directions.{opposite_of}
use Rattle.faces.specs.Planes.{PlaneModel, vertices, darts, with_outer}
use Rattle.ortho_rep.specs.declared.grid_points.Point.{Point}
use Rattle.ortho_rep.specs.declared.turn_strings.TheConstants.{MAX_TURNS}
use Rattle.ortho_rep.specs.Points.{PointsModel, origin, vertex_point, corners_at}
use Rattle.ortho_rep.specs.Shapes.{ShapeModel, angle_at, turns_at}
use Rattle.ortho_rep.specs.Representation.{IsShape, angles_around, turning_around, whole_turn}
use Rattle.drawing_check.specs.Paths.{paths, point_of}
use Rattle.drawing_check.specs.Draws.{HasPoints, IsInGrid, AreInGrid, IsAxis, AreOnAxes, direction_of, MeetNowhere}
use Rattle.referee.specs.declared.judge.Fault.{Fault}
use Rattle.referee.specs.declared.judge.Fault.TheVariants.{Vertices, Edges, Long, VertexOutOfGrid, CornerOutOfGrid, NotAxis, NoTurn, Embedding, Outer, Meet, Memory}
use Rattle.referee.specs.Drawings.{HasBoundedPoints}
use Rattle.referee.specs.Taken.{IsTaken}

-- ---- the first place

-- something holds at this number, and at none below it
pub record IsFirst (Holds : ℕ → Type 0) (place : ℕ) : Type 0 where
  pub here : Holds place
  pub before : (earlier : ℕ) → earlier < place → ¬ Holds earlier

-- something holds at this place of this edge, at no place before it, and nowhere on the edges before
pub record IsFirstOnEdges (Holds : ℕ → ℕ → Type 0) (edge place : ℕ) : Type 0 where
  pub first : IsFirst (Holds edge) place
  pub before : (earlier other : ℕ) → earlier < edge → ¬ Holds earlier other

-- ---- places of points and paths

-- edge e has more corners than are allowed
abbrev pub IsLong : PointsModel → ℕ → Type 0
IsLong points e = MAX_TURNS < length (corners_at points e)

-- the point of vertex v has a coordinate above 65,535
abbrev pub IsVertexOutside : PointsModel → ℕ → Type 0
IsVertexOutside points v = (1 ≤ v) × ¬ IsInGrid (vertex_point points v)

-- point k of these corners has a coordinate above 65,535
abbrev pub IsOutside : List Point → ℕ → Type 0
IsOutside corners k = ¬ IsInGrid (slice_index_or corners k origin)

-- corner k of edge e has a coordinate above 65,535
abbrev pub IsCornerOutside : PointsModel → ℕ → ℕ → Type 0
IsCornerOutside points e k = IsOutside (corners_at points e) k

-- the path of edge e
abbrev pub path_of_edge : PlaneModel → PointsModel → ℕ → List Point
path_of_edge p points e = slice_index_or (paths p points) e []

-- part k of a path has length 0, or is not parallel to an axis
abbrev pub IsSlanted : List Point → ℕ → Type 0
IsSlanted path k = (k + 1 < length path) × ¬ IsAxis (point_of path k) (point_of path (k + 1))

-- at corner k a path goes straight on, or back
abbrev pub IsStraight : List Point → ℕ → Type 0
IsStraight path k =
    (k + 2 < length path)
    × ((direction_of path (k + 1) ≡ direction_of path k) ⊎ (direction_of path (k + 1) ≡ opposite_of (direction_of path k)))

-- ---- vertices and faces, as the angles and the turns are that the points have

-- the directions in which the edges leave vertex v are not distinct, or not in the clockwise order of its list: the
-- angles from each edge to the next one of the list do not sum to one round
abbrev pub IsDisordered : PlaneModel → ShapeModel → ℕ → Type 0
IsDisordered p shape v = (1 ≤ v) × (v ≤ vertices p) × (angles_around p (angle_at shape) v ≢ 4)

abbrev pub AreOrdered : PlaneModel → ShapeModel → Type 0
AreOrdered p shape = (v : ℕ) → 1 ≤ v → v ≤ vertices p → angles_around p (angle_at shape) v ≡ 4

-- the turns are -4 around this face, and 4 around each other one
abbrev pub TurnsAround : PlaneModel → ShapeModel → ℕ → Type 0
TurnsAround p shape outer =
    (f : ℕ) → f < p.faces → turning_around p (angle_at shape) (turns_at shape) f ≡ whole_turn (with_outer p outer) f

-- ---- the conditions

-- the points are in the grid, and their paths on axes
pub record AreOnGridLines (p : PlaneModel) (points : PointsModel) : Type 0 where
  pub whole : HasBoundedPoints p points
  pub grid : AreInGrid points
  pub axes : AreOnAxes (paths p points)

-- each path turns at its corners, and vertex v is the first where the edges are not in order
pub record IsFirstDisorder (p : PlaneModel) (points : PointsModel) (v : ℕ) : Type 0 where
  pub lines : AreOnGridLines p points
  pub shape : ShapeModel
  pub taken : IsTaken p points shape
  pub first : IsFirst (IsDisordered p shape) v

-- the edges are in order at each vertex, and the turns fit no face as the outer one
pub record HasNoOuter (p : PlaneModel) (points : PointsModel) : Type 0 where
  pub lines : AreOnGridLines p points
  pub shape : ShapeModel
  pub taken : IsTaken p points shape
  pub ordered : AreOrdered p shape
  pub none : (outer : ℕ) → outer < p.faces → ¬ TurnsAround p shape outer

-- the points have the angles and turns of an orthogonal representation with some outer face, but meet somewhere
pub record MeetSomewhere (p : PlaneModel) (points : PointsModel) : Type 0 where
  pub lines : AreOnGridLines p points
  pub outer : ℕ
  pub named : outer < p.faces
  pub shape : ShapeModel
  pub taken : IsTaken p points shape
  pub shape_is : IsShape (with_outer p outer) shape
  pub met : ¬ MeetNowhere points (paths p points)

-- the condition that the fault names fails at the place that it names, which is the first such place, and all conditions
-- before it hold; running out of memory says nothing of the points
abbrev pub IsFirstFailure : PlaneModel → PointsModel → Fault → Type 0
IsFirstFailure p points Vertices = length points.vertices ≢ vertices p
IsFirstFailure p points Edges = (length points.vertices ≡ vertices p) × (2 * length points.corners ≢ darts p)
IsFirstFailure p points (Long edge) = HasPoints p points × IsFirst (IsLong points) edge
IsFirstFailure p points (VertexOutOfGrid vertex) = HasBoundedPoints p points × IsFirst (IsVertexOutside points) vertex
IsFirstFailure p points (CornerOutOfGrid edge corner) =
    HasBoundedPoints p points × All IsInGrid points.vertices × IsFirstOnEdges (IsCornerOutside points) edge corner
IsFirstFailure p points (NotAxis edge part) =
    HasBoundedPoints p points × AreInGrid points
    × IsFirstOnEdges (λ e. IsSlanted (path_of_edge p points e)) edge part
IsFirstFailure p points (NoTurn edge corner) =
    AreOnGridLines p points × IsFirstOnEdges (λ e. IsStraight (path_of_edge p points e)) edge corner
IsFirstFailure p points (Embedding vertex) = IsFirstDisorder p points vertex
IsFirstFailure p points Outer = HasNoOuter p points
IsFirstFailure p points Meet = MeetSomewhere p points
IsFirstFailure p points Memory = ⊤

-- ---- faults of one path; only private contracts speak of them

abbrev pub IsCornerFault : List Point → ℕ → Fault → Type 0
IsCornerFault corners edge (CornerOutOfGrid e k) = (e ≡ edge) × IsFirst (IsOutside corners) k
IsCornerFault corners edge _ = ⊥

abbrev pub IsAxisFault : List Point → ℕ → Fault → Type 0
IsAxisFault path edge (NotAxis e k) = (e ≡ edge) × IsFirst (IsSlanted path) k
IsAxisFault path edge _ = ⊥

abbrev pub IsTurnFault : List Point → ℕ → Fault → Type 0
IsTurnFault path edge (NoTurn e k) = (e ≡ edge) × IsFirst (IsStraight path) k
IsTurnFault path edge _ = ⊥

-- the first vertex at which the edges are not in order is named
abbrev pub IsDisorderFault : PlaneModel → ShapeModel → Fault → Type 0
IsDisorderFault p shape (Embedding v) = IsFirst (IsDisordered p shape) v
IsDisorderFault p shape _ = ⊥
