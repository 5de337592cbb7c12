use Rattle.std.proofs.Common.{◌≡◌}
use Rattle.ortho_rep.specs.Edges.{edge_number}
use Rattle.drawing_check.specs.Westmost.{westmost_below}
use Rattle.drawing_check.proofs.face_regions.westmost.Given as goal

abbrev pub invariant-loop-dart : goal.invariant-loop-dart
invariant-loop-dart l = record {
  number : l.edge ≡ edge_number l.plane l.dart;
  so_far : l.west ≡ westmost_below l.plane l.points l.dart;
}
