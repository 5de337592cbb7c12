use Rattle.std.proofs.Common.{◌≡◌, map, take}
use Rattle.reports.specs.LineData.{point_data}
use Rattle.reports.proofs.Steps.{is_some}
use Rattle.reports.proofs.Steps.{Lists}
use Rattle.reports.proofs.json_objects.put_points.Given as goal

abbrev pub invariant-loop-each : goal.invariant-loop-each
invariant-loop-each l = (l.later ≡ is_some (map point_data (take l.each-index l.points))) × Lists l.initial.out.items l.out.items (map point_data (take l.each-index l.points))
