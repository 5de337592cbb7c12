use Rattle.std.proofs.Common.{◌≡◌, ◌*◌, length}
use Rattle.dissect.specs.Boxes.{dart_map}
use Rattle.compact.specs.Neighbours.{AreNeighbours, HasNeighbours}
use Rattle.compact.proofs.longest_paths.neighbours_of.Given as goal

abbrev pub invariant-loop-dart : goal.invariant-loop-dart
invariant-loop-dart l = record {
  neighbours : AreNeighbours (dart_map l.boxes) l.around.items l.boxes.vertices;
  all_neighbours : HasNeighbours (dart_map l.boxes) l.around.items l.dart;
  count : length l.around.items ≡ 4 * l.boxes.vertices;
}
