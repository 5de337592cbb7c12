use Rattle.std.proofs.Common.{◌≤◌}
use Rattle.std.specs.Prelude.{All}
use Rattle.min_cost_flow.specs.Flow.{amounts}
use Rattle.ortho_rep.specs.declared.turn_strings.TheConstants.{MAX_REPEATS}
use Rattle.ortho_rep.specs.declared.turn_strings.DartShape.{DartShape}
use Rattle.ortho_rep.specs.OfFlow.{angles_of, strings_of}
use Rattle.ortho_rep.specs.Repeats.{HaveShapes}
use Rattle.ortho_rep.proofs.least.darts_with.Given as goal

abbrev pub invariant-loop-dart : goal.invariant-loop-dart
invariant-loop-dart l =
    HaveShapes (angles_of l.given (amounts l.solved.flow)) (strings_of l.plane l.given (amounts l.solved.flow)) l.dart l.found.items
    × All (λ (dart : DartShape). dart.count ≤ MAX_REPEATS) l.found.items
