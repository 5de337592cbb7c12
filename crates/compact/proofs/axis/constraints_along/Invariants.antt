use Rattle.compact.specs.Monotone.{AreAlong, growth}
use Rattle.dissect.specs.Boxes.{dart_map}
use Rattle.compact.proofs.axis.constraints_along.Given as goal

abbrev pub invariant-loop-dart : goal.invariant-loop-dart
invariant-loop-dart l = AreAlong (dart_map l.boxes) (growth l.axis) l.dart l.constraints.items
