use Rattle.std.proofs.Common.{◌≡◌, ◌≤◌, map, slice_index}
use Rattle.std.specs.Prelude.{vec_len, vec_capacity}
use Rattle.std.specs.List.{range_with_len}
use Rattle.compact.specs.Monotone.{point_at}
use Rattle.compact.proofs.points.vertex_points.Given as goal

abbrev pub invariant-loop-vertex : goal.invariant-loop-vertex
invariant-loop-vertex l = record {
  listed : l.points.items ≡ map (point_at (λ v. slice_index l.x v) (λ v. slice_index l.y v)) (range_with_len 0 l.vertex);
  count : vec_len l.points ≡ l.vertex;
  room : l.boxes.old ≤ vec_capacity l.points;
}
