use Rattle.std.proofs.Common.{◌≡◌, map, take}
use Rattle.ortho_rep.specs.declared.grid_points.Point.{Point}
use Rattle.drawing_check.specs.Shown.{rectangle_between}
use Rattle.drawing_check.proofs.edges.list_vertices.Given as goal

abbrev pub invariant-loop-point : goal.invariant-loop-point
invariant-loop-point l = l.rectangles.items ≡ map (λ (p : Point). rectangle_between p p) (take l.point-index l.vertices)
