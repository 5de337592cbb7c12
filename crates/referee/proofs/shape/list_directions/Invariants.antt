use Rattle.std.proofs.Common.{◌≡◌}
use Rattle.ortho_rep.specs.Edges.{edge_number}
use Rattle.drawing_check.proofs.Leaving.{IsLeaving}
use Rattle.referee.proofs.shape.list_directions.Given as goal

abbrev pub invariant-loop-dart : goal.invariant-loop-dart
invariant-loop-dart l = record {
  number : l.edge ≡ edge_number l.plane l.dart;
  leaving : IsLeaving l.plane l.points l.directions l.dart;
}
