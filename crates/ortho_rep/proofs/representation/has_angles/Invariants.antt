use Rattle.std.proofs.Common.{ℕ, ◌<◌, ◌≤◌}
use Rattle.ortho_rep.specs.Shapes.{angle_at}
use Rattle.ortho_rep.proofs.representation.has_angles.Given as goal

abbrev pub invariant-loop-dart : goal.invariant-loop-dart
invariant-loop-dart l = (d : ℕ) → d < l.dart → (1 ≤ angle_at l.shape d) × (angle_at l.shape d ≤ 4)
