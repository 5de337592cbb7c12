-- What a call finds of a graph, given by its neighbour lists, and how it is told to C.
use Rattle.std.specs.Prelude.{◌≡◌, ℕ, ◌+◌, ◌*◌, ◌<◌, ◌≤◌, List, length, map, take, slice_index, Bool, true, Option, Some, None, is_some, ⊤}
use Rattle.std.specs.List.{flat_map}
use Rattle.common.specs.declared.parameters.Choice.{Choice}
use Rattle.common.specs.declared.parameters.DrawingKind.{DrawingKind}
use Rattle.common.specs.declared.parameters.DrawingKind.TheVariants.{Quick}
use Rattle.faces.specs.Planes.{PlaneModel, IsPlane, darts, vertices}
use Rattle.ortho_rep.specs.declared.turn_strings.Turn.{Turn}
use Rattle.ortho_rep.specs.declared.grid_points.Point.{Point}
use Rattle.ortho_rep.specs.Turns.{lefts, rights}
use Rattle.ortho_rep.specs.Shapes.{ShapeModel, turns_at}
use Rattle.ortho_rep.specs.Points.{PointsModel}
use Rattle.ortho_rep.specs.Prices.{PricesModel, IsProof}
use Rattle.ortho_rep.specs.Representation.{IsShape, IsLeast, bends_of}
use Rattle.ortho_rep.specs.Best.{IsChosen}
use Rattle.conditions.specs.declared.conditions.Conditions.{Conditions}
use Rattle.conditions.specs.Chosen.{IsKept}
use Rattle.reports.specs.Lengths.{IsQuick}
use Rattle.answers.specs.Drawings.{IsDrawing}
use Rattle.answers.specs.Kept.{AreDrawnStraight, KeepsAsked}
use Rattle.planarbend_c.specs.declared.lists.Counts.{Counts}
use Rattle.planarbend_c.specs.declared.request.Layout.{Layout}
use Rattle.planarbend_c.specs.declared.lists.DartTurns.{DartTurns}
use Rattle.planarbend_c.specs.declared.lists.GridPoint.{GridPoint}
use Rattle.planarbend_c.specs.Requests.{shape_kind}
use Rattle.planarbend_c.specs.Held.{ListsModel, HasRoom, Holds}

-- ---- what is found

-- points that draw the shape, where a drawing is asked for
abbrev pub IsDrawnIfAsked : PlaneModel → ShapeModel → Option PointsModel → Type 0
IsDrawnIfAsked plane shape None = ⊤
IsDrawnIfAsked plane shape (Some points) = IsDrawing plane shape points

-- a quick drawing, where a drawing is asked for
abbrev pub IsQuickIfAsked : PlaneModel → ShapeModel → Option PointsModel → Type 0
IsQuickIfAsked plane shape None = ⊤
IsQuickIfAsked plane shape (Some points) = IsQuick plane shape points

-- what is found of a graph: its plane, a shape of it, prices, the kind of drawing that the shape is for, and points
-- where a drawing is asked for
pub record Finding : Type 0 where
  pub plane : PlaneModel
  pub shape : ShapeModel
  pub prices : PricesModel
  pub kind : DrawingKind
  pub points : Option PointsModel

abbrev pub finding : PlaneModel → ShapeModel → PricesModel → DrawingKind → Option PointsModel → Finding
finding plane shape prices kind points = record { plane = plane; shape = shape; prices = prices; kind = kind; points = points }

-- what a layout holds
abbrev pub finding_of : Layout → Finding
finding_of layout = finding layout.laid.plane layout.laid.shape layout.laid.prices layout.laid.drawing_kind layout.drawing

-- there are points exactly where a drawing is asked for, and the shape is for a drawing of that kind
pub record IsAsAsked (kind : Option DrawingKind) (found : Finding) : Type 0 where
  pub points : is_some found.points ≡ is_some kind
  pub shape : found.kind ≡ shape_kind kind

-- it is of a graph with these neighbour lists under a choice of the outer face
pub record IsFound (choice : Choice) (g : List (List ℕ)) (found : Finding) : Type 0 where
  -- the plane has these neighbour lists
  pub lists : found.plane.lists ≡ g
  -- no rule is broken, and the faces are those of the lists
  pub rules : IsPlane found.plane
  -- the outer face is the chosen one
  pub chosen : IsChosen choice found.plane
  -- the shape is an orthogonal representation of the plane with its outer face
  pub shape_is : IsShape found.plane found.shape
  -- each other one has at least as many bends
  pub least : IsLeast found.plane found.shape
  -- the prices prove so
  pub proof : IsProof found.plane found.shape found.prices
  -- the points draw the shape
  pub drawn : IsDrawnIfAsked found.plane found.shape found.points
  -- if the shape is for a quick drawing, they are one
  pub quick : found.kind ≡ Quick → IsQuickIfAsked found.plane found.shape found.points

-- an edge without turns has no corners, where a drawing is asked for
abbrev pub AreStraightIfAsked : PlaneModel → ShapeModel → Option PointsModel → Type 0
AreStraightIfAsked plane shape None = ⊤
AreStraightIfAsked plane shape (Some points) = AreDrawnStraight plane shape points

-- the drawing has the angles and turns that are asked for, where a drawing is asked for
abbrev pub KeepsAskedIfDrawn : Conditions → PlaneModel → Option PointsModel → Type 0
KeepsAskedIfDrawn conditions plane None = ⊤
KeepsAskedIfDrawn conditions plane (Some points) = KeepsAsked conditions plane points

-- it is of a graph with these neighbour lists under a choice of the outer face and conditions
pub record IsFoundKeeping (conditions : Conditions) (choice : Choice) (g : List (List ℕ)) (found : Finding) : Type 0 where
  pub lists : found.plane.lists ≡ g
  pub rules : IsPlane found.plane
  -- the outer face is the chosen one of those that may be outside, and the shape has the fewest bends of all that keep
  -- the angles and turns, as the prices prove
  pub kept : IsKept conditions choice found.plane found.shape found.prices
  -- the points draw the shape
  pub drawn : IsDrawnIfAsked found.plane found.shape found.points
  -- if the shape is for a quick drawing, they are one
  pub quick : found.kind ≡ Quick → IsQuickIfAsked found.plane found.shape found.points
  pub straight : AreStraightIfAsked found.plane found.shape found.points
  pub keeps : KeepsAskedIfDrawn conditions found.plane found.points

-- ---- how it is told

-- these numbers of turns to the left and to the right
abbrev pub both_turns : ℕ → ℕ → DartTurns
both_turns left right = record { left = left; right = right }

-- how many turns go to each side
abbrev pub turns_counted : List Turn → DartTurns
turns_counted turns = both_turns (lefts turns) (rights turns)

abbrev pub grid_point : Point → GridPoint
grid_point point = record { x = point.x; y = point.y }

-- the corners of all edges in a row
abbrev pub all_corners : List (List Point) → List GridPoint
all_corners = flat_map (map grid_point)

-- how many corners the edges before edge e have
abbrev pub corners_before : List (List Point) → ℕ → ℕ
corners_before corners e = length (all_corners (take e corners))

-- how many corners the drawing has, if there is one
abbrev pub corners_drawn : Option PointsModel → ℕ
corners_drawn None = 0
corners_drawn (Some points) = length (all_corners points.corners)

-- the counts of a finding
pub record AreCounts (found : Finding) (counts : Counts) : Type 0 where
  pub vertices : counts.vertices ≡ vertices found.plane
  pub edges : 2 * counts.edges ≡ darts found.plane
  pub faces : counts.faces ≡ found.plane.faces
  pub bends : counts.bends ≡ bends_of (length found.shape.strings) (turns_at found.shape)
  pub outer : counts.outer_face ≡ found.plane.outer
  pub corners : counts.corners ≡ corners_drawn found.points

-- for each edge the corners before it, and at last all of them, unless the list is left out
abbrev pub HoldsStarts : List ℕ → List (List Point) → Type 0
HoldsStarts starts corners = 0 < length starts → (e : ℕ) → e ≤ length corners → slice_index starts e ≡ corners_before corners e

-- the lists of points
pub record HoldPoints (points : PointsModel) (lists : ListsModel) : Type 0 where
  pub vertices : Holds lists.points (map grid_point points.vertices)
  pub starts : HoldsStarts lists.corner_starts points.corners
  pub corners : Holds lists.corners (all_corners points.corners)

abbrev pub HoldPointsIfAny : Option PointsModel → ListsModel → Type 0
HoldPointsIfAny None lists = ⊤
HoldPointsIfAny (Some points) lists = HoldPoints points lists

-- the lists are those of a finding
pub record HoldFinding (found : Finding) (lists : ListsModel) : Type 0 where
  pub angles : Holds lists.angles found.shape.angles
  pub turns : Holds lists.turns (map turns_counted found.shape.strings)
  pub vertices : Holds lists.vertex_prices found.prices.vertices
  pub faces : Holds lists.face_prices found.prices.faces
  pub points : HoldPointsIfAny found.points lists

-- ---- how much room it takes

-- each list of points has room
pub record HavePointRoom (counts : Counts) (lists : ListsModel) : Type 0 where
  pub vertices : HasRoom lists.points counts.vertices
  pub starts : HasRoom lists.corner_starts (counts.edges + 1)
  pub corners : HasRoom lists.corners counts.corners

-- each list has room for what is counted; those of points need some only if there is a drawing
pub record HaveRoom (drawn : Bool) (counts : Counts) (lists : ListsModel) : Type 0 where
  pub angles : HasRoom lists.angles (2 * counts.edges)
  pub turns : HasRoom lists.turns (2 * counts.edges)
  pub vertices : HasRoom lists.vertex_prices counts.vertices
  pub faces : HasRoom lists.face_prices counts.faces
  pub points : drawn ≡ true → HavePointRoom counts lists
