use Rattle.std.proofs.Common.{◌≡◌, ◌≤◌, ◌+◌, ◌*◌}
use Rattle.std.specs.Prelude.{slice_index}
use Rattle.common.specs.Sums.{sum_below}
use Rattle.faces.specs.Planes.{head, face_at}
use Rattle.ortho_rep.proofs.distances.at_darts.Given as goal

abbrev pub invariant-loop-dart : goal.invariant-loop-dart
invariant-loop-dart l = record {
  sum : l.sum ≡ sum_below l.dart (λ d. slice_index l.far (face_at l.plane d) + slice_index l.near (head l.plane d));
  few : l.sum ≤ 131070 * l.dart;
}
