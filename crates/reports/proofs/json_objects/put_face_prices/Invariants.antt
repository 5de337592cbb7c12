use Rattle.std.proofs.Common.{map, take}
use Rattle.reports.specs.LineData.{integer}
use Rattle.reports.proofs.Steps.{Lists}
use Rattle.reports.proofs.json_objects.put_face_prices.Given as goal

abbrev pub invariant-loop-face : goal.invariant-loop-face
invariant-loop-face l = Lists l.initial.out.items l.out.items (map integer (take l.face l.prices.faces))
