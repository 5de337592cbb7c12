use Rattle.std.proofs.Common.{◌≡◌, length}
use Rattle.embedding.specs.Walk.{IsTraced, at, next_in}
use Rattle.embedding.proofs.genus.number_faces.Given as goal

abbrev pub invariant-loop-dart : goal.invariant-loop-dart
invariant-loop-dart l = record {
  size : length l.faces ≡ length l.initial.faces;
  traced : IsTraced (length l.initial.faces) (next_in l.rotation) (at l.faces) l.count l.dart;
}
