use Rattle.std.proofs.Common.{◌≡◌, ◌++◌, map}
use Rattle.std.specs.List.{range_with_len}
use Rattle.ortho_rep.specs.FlatPoints.{span_at}
use Rattle.ortho_rep.proofs.grid_points.push_spans.Given as goal

abbrev pub invariant-loop-edge : goal.invariant-loop-edge
invariant-loop-edge l = l.points.items ≡ l.initial.points.items ++ map (span_at l.starts) (range_with_len 0 l.edge)
