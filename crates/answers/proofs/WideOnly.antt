-- The least points of boxes of a shape draw it, so of the causes one alone is left.
use Rattle.std.proofs.Common.{◌≡◌, ℕ, List, Err, refl, subst}
use Rattle.common.specs.declared.parameters.Choice.{Choice}
use Rattle.faces.specs.Planes.{PlaneModel, IsPlane}
use Rattle.ortho_rep.specs.Shapes.{ShapeModel}
use Rattle.ortho_rep.specs.Prices.{PricesModel}
use Rattle.dissect.specs.Boxes.{BoxesModel}
use Rattle.dissect.specs.Boxed.{IsBoxed}
use Rattle.drawing_laws.proofs.Drawn.{least_points_draw}
use Rattle.reports.specs.declared.answer.Cause.{Cause}
use Rattle.reports.specs.declared.answer.Cause.TheVariants.{Wide, OutOfGrid, NotAxis, WrongTurn, Meet}
use Rattle.reports.specs.Drawn.{ShowsCause}
use Rattle.reports.specs.Answers.{IsLaid}
use Rattle.drawing_laws.specs.Least.{HasNoCoordinates}
use Rattle.answers.specs.Remaining.{MayShow}
use Rattle.answers.proofs.Remaining.{remaining_of_least}

pub shown_wide : (plane : PlaneModel) (shape : ShapeModel) (b : BoxesModel) (cause : Cause) → IsPlane plane → IsBoxed plane shape b
    → ShowsCause plane shape b cause → cause ≡ Wide
shown_wide plane shape b Wide is boxed shown = refl
shown_wide plane shape b OutOfGrid is boxed shown = absurd (shown.first (least_points_draw plane shape b shown.points is boxed shown.least_points).grid)
shown_wide plane shape b NotAxis is boxed shown = absurd (shown.first.1 (least_points_draw plane shape b shown.points is boxed shown.least_points).axes)
shown_wide plane shape b WrongTurn is boxed shown = absurd (shown.first.2 (least_points_draw plane shape b shown.points is boxed shown.least_points).turns)
shown_wide plane shape b Meet is boxed shown = absurd (shown.first.3 (least_points_draw plane shape b shown.points is boxed shown.least_points).apart)

pub laid_wide : (choice : Choice) (g : List (List ℕ)) (plane : PlaneModel) (shape : ShapeModel) (prices : PricesModel) (cause : Cause)
    → IsLaid choice g plane shape prices (Err cause) → (boxes : BoxesModel) × IsBoxed plane shape boxes × HasNoCoordinates boxes × (cause ≡ Wide)
laid_wide choice g plane shape prices cause is =
    let found = is.drawn in
    let wide = shown_wide plane shape found.boxes cause is.rules found.boxed found.shown in (
      found.boxes,
      found.boxed,
      subst (MayShow found.boxes) wide (remaining_of_least plane shape found.boxes cause is.rules is.least found.boxed found.shown),
      wide,
    )
