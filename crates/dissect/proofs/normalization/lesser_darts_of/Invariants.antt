use Rattle.std.proofs.Common.{◌≡◌}
use Rattle.dissect.proofs.normalization.lesser_darts_of.Given as goal

abbrev pub invariant-loop-dart : goal.invariant-loop-dart
invariant-loop-dart l = l.edges.items ≡ l.yielded
