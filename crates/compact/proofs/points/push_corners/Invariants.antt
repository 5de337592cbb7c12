use Rattle.std.proofs.Common.{◌≡◌, ◌++◌, map, take, slice_index}
use Rattle.dissect.specs.Boxes.{dart_map}
use Rattle.compact.specs.Monotone.{point_at, vertices_along}
use Rattle.compact.proofs.points.push_corners.Given as goal

abbrev pub invariant-loop-k : goal.invariant-loop-k
invariant-loop-k l =
    l.corners.items ≡ l.fn.corners.items ++ map (point_at (λ v. slice_index l.x v) (λ v. slice_index l.y v)) (vertices_along (dart_map l.boxes) (take l.k l.path))
