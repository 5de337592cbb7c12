-- How long the edges of a drawing are and how far it reaches, beside a quick drawing of the same shape.
use Rattle.std.specs.Prelude.{ℕ, ◌+◌, ◌*◌, ◌<◌, ◌≤◌, List, [], ◌∷◌, All, IfOk, ⊤}
use Rattle.std.specs.List.{sum_by}
use Rattle.faces.specs.Planes.{PlaneModel, darts, vertices}
use Rattle.ortho_rep.specs.declared.grid_points.Point.{Point}
use Rattle.ortho_rep.specs.Shapes.{ShapeModel, turns_at}
use Rattle.ortho_rep.specs.Points.{PointsModel, AreBelow}
use Rattle.ortho_rep.specs.Representation.{bends_of}
use Rattle.drawing_check.specs.Walks.{distance}
use Rattle.drawing_check.specs.Paths.{paths}
use Rattle.dissect.specs.Boxes.{BoxesModel}
use Rattle.dissect.specs.Boxed.{IsBoxed}
use Rattle.dissect.specs.Monotone.{AreLeastPoints}
use Rattle.reports.specs.declared.answer.Answer.{Answer}
use Rattle.reports.specs.declared.answer.Answer.TheVariants.{Laid, Refused, NoMemory}

-- how many steps lead along a path
abbrev pub path_length : List Point → ℕ
path_length [] = 0
path_length (a ∷ []) = 0
path_length (a ∷ b ∷ rest) = distance a b + path_length (b ∷ rest)

-- how long all edges are together
abbrev pub edge_length : PlaneModel → PointsModel → ℕ
edge_length p points = sum_by path_length (paths p points)

-- the points are the least ones of boxes that dissect the shape
pub record IsQuick (plane : PlaneModel) (shape : ShapeModel) (points : PointsModel) : Type 0 where
  pub boxes : BoxesModel
  pub boxed : IsBoxed plane shape boxes
  pub least : AreLeastPoints boxes points

-- the edges are together no longer than in a quick drawing of the same shape
pub record IsNoLonger (plane : PlaneModel) (shape : ShapeModel) (points : PointsModel) : Type 0 where
  pub quick : PointsModel
  pub is_quick : IsQuick plane shape quick
  pub no_longer : edge_length plane points ≤ edge_length plane quick

-- three times the vertices, twice the bends, and five
abbrev pub coordinate_bound : PlaneModel → ShapeModel → ℕ
coordinate_bound p shape = 3 * vertices p + 2 * bends_of (darts p) (turns_at shape) + 5

-- each coordinate is less
abbrev pub IsNear : PlaneModel → ShapeModel → PointsModel → Type 0
IsNear plane shape points = AreBelow (coordinate_bound plane shape) points

-- it holds of the points of an answer, if there are any
abbrev pub IfDrawn : (PlaneModel → ShapeModel → PointsModel → Type 0) → Answer → Type 0
IfDrawn P (Laid plane shape prices drawing) = IfOk drawing (P plane shape)
IfDrawn P (Refused rule) = ⊤
IfDrawn P NoMemory = ⊤
