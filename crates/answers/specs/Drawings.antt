-- What is said of each drawing of a shape.
use Rattle.faces.specs.Planes.{PlaneModel}
use Rattle.ortho_rep.specs.Shapes.{ShapeModel}
use Rattle.ortho_rep.specs.Points.{PointsModel}
use Rattle.reports.specs.Drawn.{IsDrawingOf}
use Rattle.reports.specs.Lengths.{IsNear, IsNoLonger}

-- points and corners for the whole plane, which draw the shape
pub record IsDrawing (plane : PlaneModel) (shape : ShapeModel) (points : PointsModel) : Type 0 where
  pub drawn : IsDrawingOf plane shape points
  -- the edges are together no longer than in a quick drawing of the same shape
  pub no_longer : IsNoLonger plane shape points
  -- for n vertices and b bends each coordinate is less than 3n + 2b + 5
  pub near : IsNear plane shape points
