-- The directions of all darts of a plane, in one list.
use Rattle.std.specs.Prelude.{◌≡◌, ℕ, List, length, slice_index}
use Rattle.faces.specs.Planes.{PlaneModel, darts}
use Rattle.ortho_rep.specs.Shapes.{ShapeModel, angle_at, turns_at}
use Rattle.dissect.specs.Bends.{AreDirections}

-- the list has for each dart of the plane a direction in which it arrives, as the angles and strings of the shape ask
pub record AreDirectionsOf (p : PlaneModel) (shape : ShapeModel) (directions : List ℕ) : Type 0 where
  pub count : length directions ≡ darts p
  pub each : AreDirections p (angle_at shape) (turns_at shape) (λ d. slice_index directions d)
