use Rattle.std.proofs.Common.{◌≡◌, ◌≤◌, ◌<◌, ℕ}
use Rattle.std.specs.Prelude.{slice_index}
use Rattle.faces.specs.Planes.{head, face_at}
use Rattle.ortho_rep.proofs.distances.measure_vertices.Given as goal

abbrev pub invariant-loop-dart : goal.invariant-loop-dart
invariant-loop-dart l = record {
  none : slice_index l.near 0 ≡ 0;
  near : (d : ℕ) → d < l.dart → slice_index l.near (head l.plane d) ≤ slice_index l.far (face_at l.plane d);
}
