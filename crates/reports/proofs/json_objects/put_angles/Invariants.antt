use Rattle.std.proofs.Common.{map, take}
use Rattle.reports.specs.LineData.{natural}
use Rattle.reports.proofs.Steps.{Lists}
use Rattle.reports.proofs.json_objects.put_angles.Given as goal

abbrev pub invariant-loop-dart : goal.invariant-loop-dart
invariant-loop-dart l = Lists l.initial.out.items l.out.items (map natural (take l.dart l.shape.angles))
