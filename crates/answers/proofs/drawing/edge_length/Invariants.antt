use Rattle.std.proofs.Common.{◌≡◌}
use Rattle.ortho_rep.specs.Edges.{edge_number}
use Rattle.answers.proofs.Lengths.{length_below}
use Rattle.answers.proofs.drawing.edge_length.Given as goal

abbrev pub invariant-loop-dart : goal.invariant-loop-dart
invariant-loop-dart l = record {
  number : l.edge ≡ edge_number l.plane l.dart;
  so_far : l.length ≡ length_below l.plane l.points l.dart;
}
