-- What a drawing keeps of its shape: edges without turns, and what is asked for.
use Rattle.std.proofs.Common.{◌≡◌, ◌∙◌, ◌++◌, ◌∷◌, [], length, ap, arith, subst, length-append}
use Rattle.std.proofs.lemmas.List.{nil_from_length}
use Rattle.common.specs.declared.parameters.Choice.{Choice}
use Rattle.geometry.specs.Directions.{left_quarters}
use Rattle.faces.specs.Planes.{PlaneModel, head, next}
use Rattle.ortho_rep.specs.Prices.{PricesModel}
use Rattle.ortho_rep.specs.Shapes.{ShapeModel, turns_at}
use Rattle.ortho_rep.specs.Points.{PointsModel, vertex_point, corners_at}
use Rattle.ortho_rep.specs.Edges.{edge_number}
use Rattle.drawing_check.specs.Paths.{path_along}
use Rattle.drawing_check.specs.Draws.{Draws, IsTurning, leaving}
use Rattle.drawing_check.proofs.Routing.{each_lesser}
use Rattle.conditions.specs.declared.conditions.Conditions.{Conditions}
use Rattle.conditions.specs.Chosen.{IsKept}
use Rattle.answers.specs.Kept.{AreDrawnStraight, KeepsAsked}

pub drawn_straight : (p : PlaneModel) (shape : ShapeModel) (points : PointsModel) → Draws p shape points → AreDrawnStraight p shape points
drawn_straight p shape points draws d inside lesser none =
    let turning : IsTurning (path_along p points d) (turns_at shape d) = (each_lesser (λ e. IsTurning (path_along p points e) (turns_at shape e)) p).0 draws.turns.edges d inside lesser in
    let corners = corners_at points (edge_number p d) in
    let both : length (corners ++ vertex_point points (head p d) ∷ []) ≡ _ = length-append corners (vertex_point points (head p d) ∷ []) in
    nil_from_length corners (omega (arith, turning.corners, both, ap length none))

-- a drawing of a shape that keeps the conditions has the angles and turns that are asked for
pub drawn_as_asked : (conditions : Conditions) (choice : Choice) (p : PlaneModel) (shape : ShapeModel) (prices : PricesModel) (points : PointsModel)
    → IsKept conditions choice p shape prices → Draws p shape points → KeepsAsked conditions p points
drawn_as_asked conditions choice p shape prices points kept draws = record {
  turns = λ d inside lesser t asked.
      let turning : IsTurning (path_along p points d) (turns_at shape d) = (each_lesser (λ e. IsTurning (path_along p points e) (turns_at shape e)) p).0 draws.turns.edges d inside lesser in
      subst (IsTurning (path_along p points d)) (kept.least.keeps.turns d inside t ((kept.asked.given_for.turns d inside t).1 asked)) turning;
  angles = λ d inside k asked.
      draws.turns.heads d inside
      ∙ ap (λ n. left_quarters n (leaving p points (next p d))) (kept.least.keeps.angles d inside k ((kept.asked.given_for.angles d inside k).1 asked));
}
