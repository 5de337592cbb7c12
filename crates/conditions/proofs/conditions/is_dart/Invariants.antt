use Rattle.std.proofs.Common.{ℕ, ◌<◌}
use Rattle.conditions.specs.Asked.{Names}
use Rattle.conditions.proofs.conditions.is_dart.Given as goal

abbrev pub invariant-loop-dart : goal.invariant-loop-dart
invariant-loop-dart l = (d : ℕ) → d < l.dart → ¬ Names l.plane d l.from l.to
