-- What is known of a graph, given by its neighbour lists, whose layout keeps conditions.
use Rattle.std.specs.Prelude.{◌≡◌, ℕ, ℤ, ◌<◌, true, List, []}
use Rattle.common.specs.declared.parameters.Choice.{Choice}
use Rattle.geometry.specs.Directions.{left_quarters}
use Rattle.faces.specs.Planes.{PlaneModel, IsPlane, darts, reverse_dart, next}
use Rattle.ortho_rep.specs.Shapes.{ShapeModel, turns_at}
use Rattle.ortho_rep.specs.Points.{PointsModel, corners_at}
use Rattle.ortho_rep.specs.Edges.{is_lesser, edge_number}
use Rattle.ortho_rep.specs.Keeping.{one_way}
use Rattle.drawing_check.specs.Paths.{path_along}
use Rattle.drawing_check.specs.Draws.{IsTurning, leaving}
use Rattle.conditions.specs.declared.conditions.Conditions.{Conditions}
use Rattle.conditions.specs.declared.cuts.KeepFault.{KeepFault}
use Rattle.conditions.specs.Asked.{AsksAngle, AsksTurns}
use Rattle.conditions.specs.Chosen.{IsKept, IsKeepFault}
use Rattle.answers.specs.declared.shaped_plane.ShapedPlane.{ShapedPlane}
use Rattle.answers.specs.Steps.{IsTracedPlane}

-- the plane of the lists with the chosen outer face among those that may be outside, and a shape of it with the
-- fewest bends of all that keep the angles and turns, as the prices prove
pub record IsKeptPlane (conditions : Conditions) (choice : Choice) (g : List (List ℕ)) (made : ShapedPlane) : Type 0 where
  pub lists : made.plane.lists ≡ g
  pub rules : IsPlane made.plane
  pub kept : IsKept conditions choice made.plane made.shape made.prices

-- the plane of the lists, with its greatest face as the outer one, shows why no shape keeps the conditions
pub record IsUnkept (conditions : Conditions) (choice : Choice) (g : List (List ℕ)) (fault : KeepFault) : Type 0 where
  pub plane : PlaneModel
  pub traced : IsTracedPlane g plane
  pub shown : IsKeepFault conditions choice plane fault

-- an edge without turns has no corners
abbrev pub AreDrawnStraight : PlaneModel → ShapeModel → PointsModel → Type 0
AreDrawnStraight plane shape points = (d : ℕ) → d < darts plane → is_lesser plane d ≡ true → turns_at shape d ≡ []
    → corners_at points (edge_number plane d) ≡ []

-- the drawing has the angles and turns that are asked for
pub record KeepsAsked (conditions : Conditions) (plane : PlaneModel) (points : PointsModel) : Type 0 where
  -- the edge of a lesser dart along which t turns are asked for has that many corners, and each turns that way
  pub turns : (d : ℕ) → d < darts plane → is_lesser plane d ≡ true → (t : ℤ) → AsksTurns plane conditions.turns.now d t
      → IsTurning (path_along plane points d) (one_way t)
  -- where an angle of k right angles is asked for, the way back is k quarters to the left of the next dart of the face
  pub angles : (d : ℕ) → d < darts plane → (k : ℕ) → AsksAngle plane conditions.angles.now d k
      → leaving plane points (reverse_dart plane d) ≡ left_quarters k (leaving plane points (next plane d))
