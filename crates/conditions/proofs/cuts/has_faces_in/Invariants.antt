use Rattle.std.proofs.Common.{◌≡◌, ◌<◌, ℕ, true}
use Rattle.std.specs.Prelude.{None}
use Rattle.flow_network.specs.Given.{angle_given}
use Rattle.faces.specs.Planes.{head, face_at}
use Rattle.flow_network.specs.Marks.{is_marked}
use Rattle.conditions.proofs.cuts.has_faces_in.Given as goal

abbrev pub invariant-loop-dart : goal.invariant-loop-dart
invariant-loop-dart l = record {
  so_far : (d : ℕ) → d < l.dart → head l.plane d ≡ l.vertex → angle_given l.given d ≡ None → is_marked l.faces (face_at l.plane d) ≡ true;
}
