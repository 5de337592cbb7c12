use Rattle.std.proofs.Common.{◌≡◌, length}
use Rattle.faces.specs.Planes.{face_at}
use Rattle.conditions.specs.Asked.{IsAmong}
use Rattle.conditions.proofs.Marking.{AreMarkedBelow}
use Rattle.conditions.proofs.conditions.mark_faces.Given as goal

abbrev pub invariant-loop-dart : goal.invariant-loop-dart
invariant-loop-dart l = record {
  size : length l.barred ≡ l.plane.faces;
  so_far : AreMarkedBelow (face_at l.plane) (IsAmong l.plane l.list) l.plane.faces l.dart l.barred;
}
