use Rattle.std.proofs.Common.{◌≡◌, ◌≤◌, length}
use Rattle.std.specs.Prelude.{All}
use Rattle.ortho_rep.specs.declared.turn_strings.TheConstants.{MAX_REPEATS}
use Rattle.ortho_rep.specs.declared.turn_strings.DartShape.{DartShape}
use Rattle.straightening.proofs.search.ShapeFlow.shape.Given as goal

abbrev pub invariant-loop-dart : goal.invariant-loop-dart
invariant-loop-dart l = record {
  count : length l.found.items ≡ l.dart;
  short : All (λ (dart : DartShape). dart.count ≤ MAX_REPEATS) l.found.items;
}
