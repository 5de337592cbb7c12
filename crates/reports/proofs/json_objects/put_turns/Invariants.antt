use Rattle.std.proofs.Common.{map, take}
use Rattle.reports.specs.LineData.{turns_data}
use Rattle.reports.proofs.Steps.{Lists}
use Rattle.reports.proofs.json_objects.put_turns.Given as goal

abbrev pub invariant-loop-dart : goal.invariant-loop-dart
invariant-loop-dart l = Lists l.initial.out.items l.out.items (map turns_data (take l.dart l.shape.strings))
