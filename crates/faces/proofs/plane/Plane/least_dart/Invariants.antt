use Rattle.std.proofs.Common.{◌≢◌, ◌<◌, ℕ}
use Rattle.faces.specs.Planes.{face_at}
use Rattle.faces.proofs.plane.Plane.least_dart.Given as goal

abbrev pub invariant-loop-dart : goal.invariant-loop-dart
invariant-loop-dart l = (d : ℕ) → d < l.dart → face_at l.self d ≢ l.face
