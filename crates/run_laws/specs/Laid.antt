-- The meaning of a laid answer, in terms of lists, numbers and points.
use Rattle.std.specs.Prelude.{◌≡◌, ◌≢◌, ℕ, ◌+◌, ◌*◌, ◌/◌, ◌<◌, ◌≤◌, ◌==◌, ◌⊎◌, if◌then◌else◌, ℤ, pos, negsuc, ◌+ℤ◌, ◌-ℤ◌, ◌≤ℤ◌, List, ◌++◌, length, map, reverse, slice_index, slice_index_or, All, AllPairs, Result, IfOk, IfErr}
use Rattle.std.specs.List.{flat_map}
use Rattle.common.specs.Sums.{sum_below, total_below}
use Rattle.embedding.specs.declared.breaks.Rule.{Rule}
use Rattle.embedding.specs.Darts.{dart_count, next_of}
use Rattle.embedding.specs.Faces.{HasFaces}
use Rattle.embedding.specs.Rules.{Breaks}
use Rattle.common.specs.declared.parameters.Choice.{Choice}
use Rattle.common.specs.declared.parameters.Choice.TheVariants.{First, Best}
use Rattle.geometry.specs.Directions.{left_quarters}
use Rattle.faces.specs.Planes.{PlaneModel, vertices, darts, head, reverse_dart, next, face_at, with_outer}
use Rattle.ortho_rep.specs.declared.turn_strings.Turn.{Turn}
use Rattle.ortho_rep.specs.declared.turn_strings.Turn.TheVariants.{Left}
use Rattle.ortho_rep.specs.declared.grid_points.Point.{Point}
use Rattle.ortho_rep.specs.Turns.{opposite, lefts, rights}
use Rattle.ortho_rep.specs.Shapes.{ShapeModel, angle_at, turns_at}
use Rattle.ortho_rep.specs.Points.{PointsModel, AreBelow}
use Rattle.ortho_rep.specs.Prices.{PricesModel, vertex_price, face_price}
use Rattle.ortho_rep.specs.Edges.{lesser_darts}
use Rattle.drawing_check.specs.Paths.{path_along, paths, point_of}
use Rattle.drawing_check.specs.Walks.{interior}
use Rattle.drawing_check.specs.Draws.{direction_of, turned, leaving}
use Rattle.drawing_check.specs.Regions.{HasRegions}
use Rattle.dissect.specs.Boxes.{BoxesModel}
use Rattle.dissect.specs.Boxed.{IsBoxed}
use Rattle.reports.specs.declared.answer.Cause.{Cause}
use Rattle.reports.specs.Lengths.{IsNoLonger}
use Rattle.reports.specs.Drawn.{ShowsCause}

-- ---- representations

-- the sum of the angles at vertex v
abbrev pub angle_sum : PlaneModel → (ℕ → ℕ) → ℕ → ℕ
angle_sum plane angle v = sum_below (darts plane) (λ d. if head plane d == v then angle d else 0)

-- the quarter turns to the left in a walk round face f, less those to the right: along its darts, and 2 less the angle
-- at their heads
abbrev pub net_turning : PlaneModel → (ℕ → ℕ) → (ℕ → List Turn) → ℕ → ℤ
net_turning plane angle turns f =
    total_below (darts plane) (λ d. if face_at plane d == f then pos 2 -ℤ pos (angle d) +ℤ pos (lefts (turns d)) -ℤ pos (rights (turns d)) else pos 0)

-- angles and strings of turns, by dart, that form an orthogonal representation of the plane with its outer face
pub record Represents (plane : PlaneModel) (angle : ℕ → ℕ) (turns : ℕ → List Turn) : Type 0 where
  -- each angle is one to four right angles
  pub angles : (d : ℕ) → d < darts plane → (1 ≤ angle d) × (angle d ≤ 4)
  -- the turns of the way back are those of the way there, last first, with left and right exchanged
  pub strings : (d : ℕ) → d < darts plane → turns (reverse_dart plane d) ≡ map opposite (reverse (turns d))
  -- the angles at each vertex sum to four right angles
  pub around : (v : ℕ) → 1 ≤ v → v ≤ vertices plane → angle_sum plane angle v ≡ 4
  -- the walk round each inner face turns once to the left, that round the outer face once to the right
  pub inner : (f : ℕ) → f < plane.faces → f ≢ plane.outer → net_turning plane angle turns f ≡ pos 4
  pub outer : (f : ℕ) → f < plane.faces → f ≡ plane.outer → net_turning plane angle turns f ≡ negsuc 3

-- the bends of strings of turns: half the sum of their lengths, since a dart and its reverse bend at the same places
abbrev pub bends : PlaneModel → (ℕ → List Turn) → ℕ
bends plane turns = sum_below (darts plane) (λ d. length (turns d)) / 2

-- ---- the outer face

-- the number of darts of face f
abbrev pub size : PlaneModel → ℕ → ℕ
size plane f = sum_below (darts plane) (λ d. if face_at plane d == f then 1 else 0)

-- no face has more darts than the outer one, and no dart of a face with as many comes before all darts of the outer one
pub record IsFirstGreatest (plane : PlaneModel) : Type 0 where
  pub most : (f : ℕ) → f < plane.faces → size plane f ≤ size plane plane.outer
  pub first : (d : ℕ) → d < darts plane → size plane (face_at plane d) ≡ size plane plane.outer
      → (e : ℕ) × (e ≤ d) × (face_at plane e ≡ plane.outer)

-- with no other outer face does a representation have fewer bends than the shape, and with no face of a lesser number
-- as few
pub record IsFirstBest (plane : PlaneModel) (shape : ShapeModel) : Type 0 where
  pub fewest : (f : ℕ) → f < plane.faces → (angle : ℕ → ℕ) (turns : ℕ → List Turn) → Represents (with_outer plane f) angle turns
      → bends plane (turns_at shape) ≤ bends plane turns
  pub first : (f : ℕ) → f < plane.faces → (angle : ℕ → ℕ) (turns : ℕ → List Turn) → Represents (with_outer plane f) angle turns
      → bends plane turns ≡ bends plane (turns_at shape) → plane.outer ≤ f

-- the outer face is the one of the choice
abbrev pub HasOuter : Choice → PlaneModel → ShapeModel → Type 0
HasOuter First plane shape = IsFirstGreatest plane
HasOuter Best plane shape = IsFirstBest plane shape

-- ---- prices

-- the prices prove that no representation has fewer bends: one for each vertex and each face, of which those of each
-- dart's head, its face and the face across fit its angle and its turns
pub record ProveLeast (plane : PlaneModel) (shape : ShapeModel) (prices : PricesModel) : Type 0 where
  pub vertices : length prices.vertices ≡ vertices plane
  pub faces : length prices.faces ≡ plane.faces
  -- if the angle could be greater, the face costs no more than the vertex
  pub greater : (d : ℕ) → d < darts plane → angle_at shape d < 4 → face_price prices (face_at plane d) ≤ℤ vertex_price prices (head plane d)
  -- if the angle could be less, the vertex costs no more than the face
  pub less : (d : ℕ) → d < darts plane → 1 < angle_at shape d → vertex_price prices (head plane d) ≤ℤ face_price prices (face_at plane d)
  -- the face across costs at most 1 more, the cost of a bend
  pub across : (d : ℕ) → d < darts plane
      → pos 0 ≤ℤ (pos 1 +ℤ face_price prices (face_at plane d) -ℤ face_price prices (face_at plane (reverse_dart plane d)))
  -- if the dart turns left, it costs exactly 1 more
  pub bent : (d : ℕ) → d < darts plane → 0 < lefts (turns_at shape d)
      → (pos 1 +ℤ face_price prices (face_at plane d) -ℤ face_price prices (face_at plane (reverse_dart plane d))) ≡ pos 0

-- ---- drawings

-- both coordinates are at most 65,535
abbrev pub FitsGrid : Point → Type 0
FitsGrid point = (point.x ≤ 65535) × (point.y ≤ 65535)

-- the points differ in one coordinate, and not in both
abbrev pub DifferInOne : Point → Point → Type 0
DifferInOne a b = ((a.x ≡ b.x) × (a.y ≢ b.y)) ⊎ ((a.x ≢ b.x) × (a.y ≡ b.y))

-- a point for each vertex, and the corners of each edge, that draw the shape
pub record AreDrawn (plane : PlaneModel) (shape : ShapeModel) (points : PointsModel) : Type 0 where
  pub vertex_count : length points.vertices ≡ vertices plane
  pub edge_count : 2 * length points.corners ≡ darts plane
  -- all points are on the grid
  pub vertices : All FitsGrid points.vertices
  pub corners : All (All FitsGrid) points.corners
  -- two consecutive points of the path of an edge differ in one coordinate
  pub axes : All (λ path. (k : ℕ) → k + 1 < length path → DifferInOne (point_of path k) (point_of path (k + 1))) (paths plane points)
  -- each edge has a corner for each turn of its string, and turns there as the string says
  pub counted : All (λ d. length (path_along plane points d) ≡ length (turns_at shape d) + 2) (lesser_darts plane)
  pub turned_at : All (λ d. (k : ℕ) → k < length (turns_at shape d)
      → direction_of (path_along plane points d) (k + 1) ≡ turned (slice_index_or (turns_at shape d) k Left) (direction_of (path_along plane points d) k)) (lesser_darts plane)
  -- at the head of each dart the way back along it lies as far to the left of the next dart as its angle says
  pub heads : (d : ℕ) → d < darts plane
      → leaving plane points (reverse_dart plane d) ≡ left_quarters (angle_at shape d) (leaving plane points (next plane d))
  -- no point occurs twice among those of the vertices and those that the paths pass between their ends
  pub apart : AllPairs (λ a b. a ≢ b) (points.vertices ++ flat_map interior (paths plane points))
  -- each unit cell lies in one face: beside an edge in that on this side, with a neighbour in the same where no edge is
  -- between them, and outside in the outer one
  pub regions : HasRegions plane points

-- some boxes that dissect the shape show why it is not drawn
pub record IsCauseShown (plane : PlaneModel) (shape : ShapeModel) (cause : Cause) : Type 0 where
  pub boxes : BoxesModel
  pub boxed : IsBoxed plane shape boxes
  pub shown : ShowsCause plane shape boxes cause

-- ---- the whole answer

-- the guarantee of an answer that is laid for a graph with these neighbour lists under this choice of the outer face
pub record IsLaidPlainly (choice : Choice) (g : List (List ℕ)) (plane : PlaneModel) (shape : ShapeModel) (prices : PricesModel) (drawing : Result PointsModel Cause) : Type 0 where
  -- the plane has these lists, and they break no rule
  pub lists : plane.lists ≡ g
  pub no_rule : (rule : Rule) → ¬ Breaks g rule
  -- its faces are those of the lists, and the outer one is the chosen one
  pub face_count : length plane.face ≡ dart_count g
  pub faces : HasFaces (dart_count g) (next_of g) (λ d. slice_index plane.face d) plane.faces
  pub outer : HasOuter choice plane shape
  -- the shape has an angle and a string for each dart, and they are an orthogonal representation
  pub angle_count : length shape.angles ≡ darts plane
  pub string_count : length shape.strings ≡ darts plane
  pub representation : Represents plane (angle_at shape) (turns_at shape)
  -- no representation has fewer bends, however long its strings are
  pub fewest : (angle : ℕ → ℕ) (turns : ℕ → List Turn) → Represents plane angle turns → bends plane (turns_at shape) ≤ bends plane turns
  -- the prices prove that
  pub proof : ProveLeast plane shape prices
  -- points, if given, draw the shape; a cause in their place is shown
  pub drawn : IfOk drawing (AreDrawn plane shape)
  pub shown : IfErr drawing (IsCauseShown plane shape)
  -- all their coordinates are less than three times the vertices, twice the bends, and five
  pub near : IfOk drawing (AreBelow (3 * vertices plane + 2 * bends plane (turns_at shape) + 5))
  -- and their edges are together no longer than between the least points of some boxes that dissect the shape
  pub no_longer : IfOk drawing (IsNoLonger plane shape)
