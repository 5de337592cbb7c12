-- The shape that points have: the angles and the turns that can be read off them.
use Rattle.std.specs.Prelude.{◌≡◌, ℕ, ◌<◌, ◌≤◌}
use Rattle.faces.specs.Planes.{PlaneModel, darts, reverse_dart}
use Rattle.ortho_rep.specs.Turns.{mirrored}
use Rattle.ortho_rep.specs.Shapes.{ShapeModel, angle_at, turns_at}
use Rattle.ortho_rep.specs.Points.{PointsModel}
use Rattle.ortho_rep.specs.Representation.{HasDarts}
use Rattle.drawing_check.specs.Draws.{TurnAsSaid}

-- its turns are those at the corners of the paths, its angles those between the edges at the vertices, 1 to 4
pub record IsTaken (p : PlaneModel) (points : PointsModel) (shape : ShapeModel) : Type 0 where
  pub lengths : HasDarts p shape
  pub angles : (d : ℕ) → d < darts p → (1 ≤ angle_at shape d) × (angle_at shape d ≤ 4)
  pub strings : (d : ℕ) → d < darts p → turns_at shape (reverse_dart p d) ≡ mirrored (turns_at shape d)
  pub turns : TurnAsSaid p shape points
