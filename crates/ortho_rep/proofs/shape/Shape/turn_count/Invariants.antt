use Rattle.std.proofs.Common.{◌≡◌, ◌≤◌, ◌*◌, length}
use Rattle.ortho_rep.specs.declared.turn_strings.TheConstants.{MAX_REPEATS, MAX_TURNS}
use Rattle.common.specs.Sums.{sum_below}
use Rattle.ortho_rep.specs.Shapes.{turns_at}
use Rattle.ortho_rep.proofs.shape.Shape.turn_count.Given as goal

abbrev pub invariant-loop-dart : goal.invariant-loop-dart
invariant-loop-dart l =
    (l.turns ≡ sum_below l.dart-index (λ d. length (turns_at l.self d))) × (l.turns ≤ l.dart-index * MAX_REPEATS)

abbrev pub invariant-loop-string : goal.invariant-loop-string
invariant-loop-string l =
    (l.turns ≡ sum_below l.string-index (λ d. length (turns_at l.self d))) × (l.turns ≤ l.string-index * MAX_TURNS)
