-- The meaning of a drawing for its shape, and of the cause in its place.
use Rattle.std.specs.Prelude.{Result, Ok, Err}
use Rattle.faces.specs.Planes.{PlaneModel}
use Rattle.ortho_rep.specs.Shapes.{ShapeModel}
use Rattle.ortho_rep.specs.Points.{PointsModel}
use Rattle.dissect.specs.Boxes.{BoxesModel}
use Rattle.dissect.specs.Boxed.{IsBoxed}
use Rattle.dissect.specs.Monotone.{AreLeastPoints, FitsNoGrid}
use Rattle.drawing_check.specs.declared.drawing.CheckFault.{CheckFault}
use Rattle.drawing_check.specs.declared.drawing.CheckFault.TheVariants as fault
use Rattle.drawing_check.specs.Draws.{HasPoints, Draws}
use Rattle.drawing_check.specs.Regions.{HasRegions}
use Rattle.drawing_check.specs.Faults.{IsFirstFault}
use Rattle.reports.specs.declared.answer.Cause.{Cause}
use Rattle.reports.specs.declared.answer.Cause.TheVariants.{Wide, OutOfGrid, NotAxis, WrongTurn, Meet}

-- some points that are derived from numbers that grow along the darts of the boxes, within the grid, fail a condition
-- of a drawing, and that one first
pub record FailFirst (plane : PlaneModel) (shape : ShapeModel) (boxes : BoxesModel) (fault : CheckFault) : Type 0 where
  pub points : PointsModel
  pub least_points : AreLeastPoints boxes points
  pub first : IsFirstFault plane shape points fault

-- the boxes show that this is the cause why the shape is not drawn
abbrev pub ShowsCause : PlaneModel → ShapeModel → BoxesModel → Cause → Type 0
-- no numbers that grow along their darts are within the grid
ShowsCause plane shape boxes Wide = FitsNoGrid boxes
ShowsCause plane shape boxes OutOfGrid = FailFirst plane shape boxes fault.OutOfGrid
ShowsCause plane shape boxes NotAxis = FailFirst plane shape boxes fault.NotAxis
ShowsCause plane shape boxes WrongTurn = FailFirst plane shape boxes fault.WrongTurn
ShowsCause plane shape boxes Meet = FailFirst plane shape boxes fault.Meet

-- some boxes that dissect the shape show the cause
pub record IsCause (plane : PlaneModel) (shape : ShapeModel) (cause : Cause) : Type 0 where
  pub boxes : BoxesModel
  pub boxed : IsBoxed plane shape boxes
  pub shown : ShowsCause plane shape boxes cause

-- the points draw the shape of the plane
pub record IsDrawingOf (plane : PlaneModel) (shape : ShapeModel) (points : PointsModel) : Type 0 where
  pub whole : HasPoints plane points
  pub draws : Draws plane shape points
  -- the regions into which the drawing cuts the plane are the faces, each on the left of its darts, and the outer one is outside
  pub regions : HasRegions plane points

-- the points draw the shape, or the cause in their place is shown
abbrev pub IsDrawn : PlaneModel → ShapeModel → Result PointsModel Cause → Type 0
IsDrawn plane shape (Ok points) = IsDrawingOf plane shape points
IsDrawn plane shape (Err cause) = IsCause plane shape cause
