use Rattle.std.proofs.Common.{◌≡◌, ℕ, ◌<◌}
use Rattle.ortho_rep.specs.Shapes.{angle_at, turns_at}
use Rattle.ortho_rep.specs.Representation.{turning_around, whole_turn}
use Rattle.ortho_rep.proofs.representation.faces_turn_once.Given as goal

abbrev pub invariant-loop-face : goal.invariant-loop-face
invariant-loop-face g l =
    (f : ℕ) → f < l.face → turning_around l.plane (angle_at l.shape) (turns_at l.shape) f ≡ whole_turn l.plane f
