use Rattle.std.proofs.Common.{map, take}
use Rattle.reports.specs.LineData.{integer}
use Rattle.reports.proofs.Steps.{Lists}
use Rattle.reports.proofs.json_objects.put_vertex_prices.Given as goal

abbrev pub invariant-loop-place : goal.invariant-loop-place
invariant-loop-place l = Lists l.initial.out.items l.out.items (map integer (take l.place l.prices.vertices))
