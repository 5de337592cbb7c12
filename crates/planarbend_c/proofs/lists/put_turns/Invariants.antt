use Rattle.std.proofs.Common.{◌≡◌, drop, length, map, take}
use Rattle.planarbend_c.specs.Found.{turns_counted}
use Rattle.planarbend_c.proofs.lists.put_turns.Given as goal

abbrev pub invariant-loop-dart : goal.invariant-loop-dart
invariant-loop-dart l =
    (take l.dart l.out ≡ take l.dart (map turns_counted l.shape.strings))
    × (drop (length l.shape.strings) l.out ≡ drop (length l.shape.strings) l.initial.out)
