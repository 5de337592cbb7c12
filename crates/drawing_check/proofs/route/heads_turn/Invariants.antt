use Rattle.std.proofs.Common.{◌≡◌, ℕ, ◌<◌}
use Rattle.geometry.specs.Directions.{left_quarters}
use Rattle.faces.specs.Planes.{reverse_dart, next}
use Rattle.ortho_rep.specs.Shapes.{angle_at}
use Rattle.drawing_check.specs.Routes.{direction_at}
use Rattle.drawing_check.proofs.route.heads_turn.Given as goal

abbrev pub invariant-loop-dart : goal.invariant-loop-dart
invariant-loop-dart l =
    (d : ℕ) → d < l.dart → direction_at l.directions (reverse_dart l.plane d) ≡ left_quarters (angle_at l.shape d) (direction_at l.directions (next l.plane d))
