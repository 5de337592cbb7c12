use Rattle.std.proofs.Common.{◌≤◌, ◌<◌, ◌+◌, ℕ}
use Rattle.std.specs.Prelude.{slice_index}
use Rattle.faces.specs.Planes.{face_at, reverse_dart}
use Rattle.ortho_rep.proofs.distances.are_smooth.Given as goal

abbrev pub invariant-loop-dart : goal.invariant-loop-dart
invariant-loop-dart l =
    (d : ℕ) → d < l.dart → slice_index l.far (face_at l.plane d) ≤ slice_index l.far (face_at l.plane (reverse_dart l.plane d)) + 1
