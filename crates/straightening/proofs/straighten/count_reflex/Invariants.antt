use Rattle.std.proofs.Common.{◌≡◌, ◌≤◌, eqb, take}
use Rattle.std.specs.Prelude.{count_by}
use Rattle.straightening.proofs.straighten.count_reflex.Given as goal

abbrev pub invariant-loop-dart : goal.invariant-loop-dart
invariant-loop-dart l = record {
  few : l.count ≤ l.dart;
  counted : l.count ≡ count_by (λ angle. eqb angle 3) (take l.dart l.shape.angles);
}
