-- Boxes of a least shape show no cause, so a laid answer has a drawing.
use Rattle.std.proofs.Common.{◌≡◌, ℕ, List, Result, Ok, Err, refl, subst}
use Rattle.common.specs.declared.parameters.Choice.{Choice}
use Rattle.faces.specs.Planes.{PlaneModel, IsPlane}
use Rattle.ortho_rep.specs.Shapes.{ShapeModel}
use Rattle.ortho_rep.specs.Points.{PointsModel}
use Rattle.ortho_rep.specs.Prices.{PricesModel}
use Rattle.ortho_rep.specs.Representation.{IsLeast}
use Rattle.dissect.specs.Boxes.{BoxesModel}
use Rattle.dissect.specs.Boxed.{IsBoxed}
use Rattle.drawing_laws.proofs.Coordinates.{boxes_monotone}
use Rattle.reports.specs.declared.answer.Cause.{Cause}
use Rattle.reports.specs.Drawn.{ShowsCause, IsDrawingOf}
use Rattle.reports.specs.declared.answer.Answer.{Answer}
use Rattle.reports.specs.declared.answer.Answer.TheVariants.{Laid, Refused, NoMemory}
use Rattle.reports.specs.Answers.{IsLaid, Answers}
use Rattle.answers.specs.DrawnAnswers.{HasDrawing, IsDrawnIfLaid}
use Rattle.drawing_laws.specs.Least.{HasNoCoordinates}
use Rattle.answers.specs.Remaining.{MayShow}
use Rattle.answers.proofs.Remaining.{remaining_of_least}
use Rattle.answers.proofs.WideOnly.{shown_wide}

-- some coordinates are in the order of the boxes
some_order : (plane : PlaneModel) (shape : ShapeModel) (b : BoxesModel) → IsBoxed plane shape b → ¬ HasNoCoordinates b
some_order plane shape b boxed none =
    let (x, y, monotone) = boxes_monotone b boxed.boxes in
    none x y monotone

pub none_shown : (plane : PlaneModel) (shape : ShapeModel) (b : BoxesModel) (cause : Cause)
    → IsPlane plane → IsLeast plane shape → IsBoxed plane shape b → ¬ ShowsCause plane shape b cause
none_shown plane shape b cause is least boxed shown =
    some_order plane shape b boxed
    (subst (MayShow b) (shown_wide plane shape b cause is boxed shown) (remaining_of_least plane shape b cause is least boxed shown))

pub no_cause : (choice : Choice) (g : List (List ℕ)) (plane : PlaneModel) (shape : ShapeModel) (prices : PricesModel) (cause : Cause)
    → ¬ IsLaid choice g plane shape prices (Err cause)
no_cause choice g plane shape prices cause is =
    let found = is.drawn in
    none_shown plane shape found.boxes cause is.rules is.least found.boxed found.shown

pub drawn : (choice : Choice) (g : List (List ℕ)) (plane : PlaneModel) (shape : ShapeModel) (prices : PricesModel) (drawing : Result PointsModel Cause)
    → IsLaid choice g plane shape prices drawing
    → (points : PointsModel) × (drawing ≡ Ok points) × IsDrawingOf plane shape points
drawn choice g plane shape prices (Ok points) is = (points, refl, is.drawn)
drawn choice g plane shape prices (Err cause) is = absurd (no_cause choice g plane shape prices cause is)

laid_drawn : (choice : Choice) (g : List (List ℕ)) (plane : PlaneModel) (shape : ShapeModel) (prices : PricesModel) (drawing : Result PointsModel Cause)
    → IsLaid choice g plane shape prices drawing → HasDrawing plane shape drawing
laid_drawn choice g plane shape prices (Ok points) is = is.drawn
laid_drawn choice g plane shape prices (Err cause) is = no_cause choice g plane shape prices cause is

pub answer_drawn : (choice : Choice) (g : List (List ℕ)) (answer : Answer) → Answers choice g answer → IsDrawnIfLaid answer
answer_drawn choice g (Laid plane shape prices drawing) is = laid_drawn choice g plane shape prices drawing is
answer_drawn choice g (Refused rule) is = tt
answer_drawn choice g NoMemory is = tt
