-- When a graph that is laid out is drawn.
use Rattle.std.specs.Prelude.{Result, Ok, Err, ⊤}
use Rattle.faces.specs.Planes.{PlaneModel}
use Rattle.ortho_rep.specs.Shapes.{ShapeModel}
use Rattle.ortho_rep.specs.Points.{PointsModel}
use Rattle.reports.specs.declared.answer.Cause.{Cause}
use Rattle.reports.specs.declared.answer.Answer.{Answer}
use Rattle.reports.specs.declared.answer.Answer.TheVariants.{Laid, Refused, NoMemory}
use Rattle.reports.specs.Drawn.{IsDrawingOf}

-- there are points that draw the shape, and no cause in their place
abbrev pub HasDrawing : PlaneModel → ShapeModel → Result PointsModel Cause → Type 0
HasDrawing plane shape (Ok points) = IsDrawingOf plane shape points
HasDrawing plane shape (Err cause) = ⊥

-- where the answer has a shape, it has a drawing of it
abbrev pub IsDrawnIfLaid : Answer → Type 0
IsDrawnIfLaid (Laid plane shape prices drawing) = HasDrawing plane shape drawing
IsDrawnIfLaid (Refused rule) = ⊤
IsDrawnIfLaid NoMemory = ⊤
