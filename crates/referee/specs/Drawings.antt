-- What it is that points draw an embedding.
use Rattle.std.specs.Prelude.{ℕ, ◌<◌, ◌≤◌, length, All}
use Rattle.faces.specs.Planes.{PlaneModel, with_outer}
use Rattle.ortho_rep.specs.declared.turn_strings.TheConstants.{MAX_TURNS}
use Rattle.ortho_rep.specs.Shapes.{ShapeModel}
use Rattle.ortho_rep.specs.Points.{PointsModel}
use Rattle.ortho_rep.specs.Representation.{IsShape}
use Rattle.drawing_check.specs.Draws.{HasPoints, Draws}

-- a point for each vertex, and for each edge a list of at most 1,000,000 corners
pub record HasBoundedPoints (p : PlaneModel) (points : PointsModel) : Type 0 where
  pub counted : HasPoints p points
  pub short : All (λ corners. length corners ≤ MAX_TURNS) points.corners

-- the points draw this orthogonal representation of the plane with its outer face
pub record IsDrawnBy (p : PlaneModel) (points : PointsModel) (shape : ShapeModel) : Type 0 where
  pub whole : HasBoundedPoints p points
  pub shape_is : IsShape p shape
  pub draws : Draws p shape points

-- with one of its faces as the outer one, the points draw some orthogonal representation of the embedding
pub record IsDrawn (p : PlaneModel) (points : PointsModel) : Type 0 where
  pub outer : ℕ
  pub named : outer < p.faces
  pub shape : ShapeModel
  pub drawn : IsDrawnBy (with_outer p outer) points shape
