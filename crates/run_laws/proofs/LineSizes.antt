-- The sizes in the line of a graph.
use Rattle.std.proofs.Common.{◌≡◌, ℕ, ◌/◌, List, ◌++◌, codes, decimal, Result, sym, ap, subst, ◌∙◌}
use Rattle.common.specs.declared.parameters.Choice.{Choice}
use Rattle.faces.specs.Planes.{PlaneModel, vertices, darts}
use Rattle.ortho_rep.specs.Shapes.{ShapeModel}
use Rattle.ortho_rep.specs.Points.{PointsModel}
use Rattle.ortho_rep.specs.Prices.{PricesModel}
use Rattle.reports.specs.declared.answer.Cause.{Cause}
use Rattle.reports.specs.Answers.{IsLaid}
use Rattle.reports.specs.Report.{sizes_text}
use Rattle.run_laws.proofs.Planes.{same_plane, same_bends}

-- the sizes of a plane and of a least shape of it leave no choice open
pub same_sizes : (choice : Choice) (g : List (List ℕ)) (plane other : PlaneModel) (shape shape' : ShapeModel) (prices prices' : PricesModel) (drawing drawing' : Result PointsModel Cause)
    → IsLaid choice g plane shape prices drawing → IsLaid choice g other shape' prices' drawing'
    → sizes_text plane shape ≡ sizes_text other shape'
same_sizes choice g plane other shape shape' prices prices' drawing drawing' one two =
    let p : plane ≡ other = same_plane choice plane other (one.lists ∙ sym two.lists) one.rules two.rules one.chosen two.chosen in
    let laid : IsLaid choice g plane shape' prices' drawing' = subst (λ q. IsLaid choice g q shape' prices' drawing') (sym p) two in
    let bends = same_bends plane shape shape' one.shape_is laid.shape_is one.least laid.least in
    ap (λ (b : ℕ). codes " n=" ++ decimal (vertices plane) ++ codes " m=" ++ decimal (darts plane / 2) ++ codes " f=" ++ decimal plane.faces ++ codes " bends=" ++ decimal b) bends
    ∙ ap (λ (q : PlaneModel). sizes_text q shape') p
