use Rattle.std.proofs.Common.{◌≡◌, ℕ, ◌<◌}
use Rattle.faces.specs.Planes.{reverse_dart}
use Rattle.ortho_rep.specs.Shapes.{turns_at}
use Rattle.ortho_rep.specs.Turns.{mirrored}
use Rattle.ortho_rep.proofs.representation.has_mirrored_strings.Given as goal

abbrev pub invariant-loop-dart : goal.invariant-loop-dart
invariant-loop-dart l =
    (d : ℕ) → d < l.dart → turns_at l.shape (reverse_dart l.plane d) ≡ mirrored (turns_at l.shape d)
