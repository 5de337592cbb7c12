use Rattle.std.proofs.Common.{Result, Ok, Err, refl}
use Rattle.faces.specs.Planes.{PlaneModel}
use Rattle.ortho_rep.specs.Shapes.{ShapeModel}
use Rattle.ortho_rep.specs.Points.{PointsModel}
use Rattle.ortho_rep.specs.Prices.{PricesModel}
use Rattle.reports.specs.declared.answer.Cause.{Cause}
use Rattle.reports.specs.declared.answer.Answer.{Answer}
use Rattle.reports.specs.declared.answer.Answer.TheVariants.{Laid, Refused, NoMemory}
use Rattle.answers.specs.DrawnAnswers.{HasDrawing, IsDrawnIfLaid}
use Rattle.collector.specs.DrawnBooks.{TellsDrawingIfLaid}
use Rattle.collector.proofs.laws.lines_tell_drawings.Goals as goal

of_drawing : (plane : PlaneModel) (shape : ShapeModel) (prices : PricesModel) (drawing : Result PointsModel Cause) → HasDrawing plane shape drawing → TellsDrawingIfLaid (Laid plane shape prices drawing)
of_drawing plane shape prices (Ok points) draws =
    (points, record { draws = draws; report = λ graph. refl; json_drawn = λ file graph. refl; json_points = λ file graph. refl })
of_drawing plane shape prices (Err cause) none = absurd none

of_answer : (answer : Answer) → IsDrawnIfLaid answer → TellsDrawingIfLaid answer
of_answer (Laid plane shape prices drawing) is = of_drawing plane shape prices drawing is
of_answer (Refused rule) is = tt
of_answer NoMemory is = tt

pub returns : goal.returns
returns c = of_answer
