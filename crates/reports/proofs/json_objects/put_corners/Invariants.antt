use Rattle.std.proofs.Common.{map}
use Rattle.std.specs.List.{range_with_len}
use Rattle.reports.specs.LineData.{corners_data}
use Rattle.reports.proofs.Steps.{Lists}
use Rattle.reports.proofs.json_objects.put_corners.Given as goal

abbrev pub invariant-loop-edge : goal.invariant-loop-edge
invariant-loop-edge l = Lists l.initial.out.items l.out.items (map (corners_data l.points) (range_with_len 0 l.edge))
