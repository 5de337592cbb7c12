use Rattle.ortho_rep.specs.Tries.{AreBounds}
use Rattle.ortho_rep.specs.Distances.{HasRoomFor}
use Rattle.ortho_rep.proofs.distances.raise_bounds.Given as goal

abbrev pub invariant-loop-dart : goal.invariant-loop-dart
invariant-loop-dart l = record {
  bounds : AreBounds l.plane l.bounds;
  room : HasRoomFor l.plane l.distances;
}
