use Rattle.std.proofs.Common.{◌≡◌, length}
use Rattle.embedding.specs.Walk.{at, next_in}
use Rattle.embedding.proofs.Tracing.{IsWalk, bare_count}
use Rattle.embedding.proofs.genus.walk_face.Given as goal

abbrev pub invariant-loop-dart : goal.invariant-loop-dart
invariant-loop-dart l = record {
  size : length l.faces ≡ length l.fn.faces;
  walk : IsWalk (length l.fn.faces) (next_in l.rotation) (at l.fn.faces) (at l.faces) l.face l.start l.dart;
}

abbrev pub decreases-loop-dart : goal.decreases-loop-dart
decreases-loop-dart l = bare_count (length l.fn.faces) (at l.faces)
