-- What is left of the causes.
use Rattle.std.proofs.Common.{ℕ, ◌+◌, ◌<◌, ◌≤◌, arith, inl, inr, List, Err}
use Rattle.common.specs.declared.parameters.Choice.{Choice}
use Rattle.faces.specs.Planes.{PlaneModel, IsPlane}
use Rattle.ortho_rep.specs.declared.grid_points.TheConstants.{MAX_COORDINATE}
use Rattle.ortho_rep.specs.Shapes.{ShapeModel}
use Rattle.ortho_rep.specs.Prices.{PricesModel}
use Rattle.ortho_rep.specs.Representation.{IsLeast}
use Rattle.drawing_laws.proofs.FewBends.{few_six}
use Rattle.ortho_rep.specs.Points.{PointsModel}
use Rattle.drawing_check.specs.Draws.{AreInGrid, IsInGrid}
use Rattle.dissect.specs.Boxes.{BoxesModel, AreBoxes}
use Rattle.dissect.specs.Boxed.{IsBoxed}
use Rattle.dissect.specs.Monotone.{AreLeastPoints, FitsNoGrid, point_at}
use Rattle.reports.specs.declared.answer.Cause.{Cause}
use Rattle.reports.specs.declared.answer.Cause.TheVariants.{Wide, OutOfGrid, NotAxis, WrongTurn, Meet}
use Rattle.reports.specs.Drawn.{ShowsCause}
use Rattle.reports.specs.Answers.{IsLaid}
use Rattle.drawing_laws.specs.Least.{HasNoCoordinates}
use Rattle.answers.specs.Remaining.{MayShow}
use Rattle.drawing_laws.proofs.Lowest.{least_exist, least_are_few, all_ends, all_bends}

pub laid_in_grid : (b : BoxesModel) (points : PointsModel) → AreBoxes b → AreLeastPoints b points → AreInGrid points
laid_in_grid b points boxes laid =
    let each : (v : ℕ) → v < b.vertices → IsInGrid (point_at laid.x laid.y v) = λ v inside. (laid.x_within v inside, laid.y_within v inside) in
    record { ends = all_ends b points IsInGrid boxes laid each; bends = all_bends b points IsInGrid boxes laid each }

pub never_out : (plane : PlaneModel) (shape : ShapeModel) (b : BoxesModel) → IsBoxed plane shape b → ¬ ShowsCause plane shape b OutOfGrid
never_out plane shape b boxed fails = fails.first (laid_in_grid b fails.points boxed.boxes fails.least_points)

no_order : (b : BoxesModel) → AreBoxes b → b.vertices ≤ MAX_COORDINATE + 1 → FitsNoGrid b → HasNoCoordinates b
no_order b boxes few none x y o =
    let l = least_exist b x y boxes o in
    let (v, inside, wide) = none l.0 l.1 l.2.monotone in
    elim wide [
      | inl beyond ↦ omega (arith, beyond, few, (least_are_few b l.0 l.1 boxes l.2 v inside).0)
      | inr beyond ↦ omega (arith, beyond, few, (least_are_few b l.0 l.1 boxes l.2 v inside).1)
    ]

pub remaining : (plane : PlaneModel) (shape : ShapeModel) (b : BoxesModel) (cause : Cause)
    → IsBoxed plane shape b → b.vertices ≤ MAX_COORDINATE + 1 → ShowsCause plane shape b cause → MayShow b cause
remaining plane shape b Wide boxed few shown = no_order b boxed.boxes few shown
remaining plane shape b OutOfGrid boxed few shown = never_out plane shape b boxed shown
remaining plane shape b NotAxis boxed few shown = tt
remaining plane shape b WrongTurn boxed few shown = tt
remaining plane shape b Meet boxed few shown = tt

-- boxes of a least shape have few vertices
pub remaining_of_least : (plane : PlaneModel) (shape : ShapeModel) (b : BoxesModel) (cause : Cause)
    → IsPlane plane → IsLeast plane shape → IsBoxed plane shape b → ShowsCause plane shape b cause → MayShow b cause
remaining_of_least plane shape b cause is least boxed shown =
    remaining plane shape b cause boxed (omega (arith, few_six plane shape is least, boxed.few, is.order)) shown

pub remaining_in_laid : (choice : Choice) (g : List (List ℕ)) (plane : PlaneModel) (shape : ShapeModel) (prices : PricesModel) (cause : Cause)
    → IsLaid choice g plane shape prices (Err cause) → (boxes : BoxesModel) × IsBoxed plane shape boxes × MayShow boxes cause
remaining_in_laid choice g plane shape prices cause is =
    let found = is.drawn in
    (found.boxes, found.boxed, remaining_of_least plane shape found.boxes cause is.rules is.least found.boxed found.shown)
