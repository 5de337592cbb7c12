use Rattle.std.proofs.Common.{◌≡◌, drop, length, take}
use Rattle.planarbend_c.proofs.lists.put_angles.Given as goal

abbrev pub invariant-loop-dart : goal.invariant-loop-dart
invariant-loop-dart l =
    (take l.dart l.out ≡ take l.dart (l.shape.angles))
    × (drop (length l.shape.angles) l.out ≡ drop (length l.shape.angles) l.initial.out)
