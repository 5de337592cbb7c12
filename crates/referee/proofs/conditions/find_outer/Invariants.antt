use Rattle.std.proofs.Common.{◌≡◌, ◌≢◌, ℕ, ◌<◌}
use Rattle.std.specs.Prelude.{negsuc}
use Rattle.ortho_rep.specs.Shapes.{angle_at, turns_at}
use Rattle.ortho_rep.specs.Representation.{turning_around}
use Rattle.referee.proofs.conditions.find_outer.Given as goal

abbrev pub invariant-loop-face : goal.invariant-loop-face
invariant-loop-face l =
    (f : ℕ) → f < l.face → turning_around l.plane (angle_at l.shape) (turns_at l.shape) f ≢ negsuc 3
