use Rattle.std.proofs.Common.{◌≡◌, ℕ, ◌<◌, get_or}
use Rattle.referee.proofs.claims.are_angles.Given as goal

abbrev pub invariant-loop-dart : goal.invariant-loop-dart
invariant-loop-dart l = (k : ℕ) → k < l.dart → get_or l.angles k 0 ≡ get_or l.shape.angles k 0
