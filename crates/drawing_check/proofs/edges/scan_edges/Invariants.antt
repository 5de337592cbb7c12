use Rattle.std.proofs.Common.{◌≡◌, ◌↔◌, ℕ, ◌<◌, ◌++◌, map, true}
use Rattle.std.specs.List.{flat_map}
use Rattle.ortho_rep.specs.declared.grid_points.Point.{Point}
use Rattle.ortho_rep.specs.Edges.{is_lesser, edge_number}
use Rattle.ortho_rep.specs.Shapes.{turns_at}
use Rattle.drawing_check.specs.Paths.{path_along}
use Rattle.drawing_check.specs.Draws.{IsOnAxes, IsTurning}
use Rattle.drawing_check.specs.Shown.{rectangle_between, strips}
use Rattle.drawing_check.proofs.InGrid.{AreInGridBelow}
use Rattle.drawing_check.proofs.Leaving.{IsLeaving}
use Rattle.drawing_check.proofs.Routing.{paths_below}
use Rattle.drawing_check.proofs.edges.scan_edges.Given as goal

abbrev pub invariant-loop-dart : goal.invariant-loop-dart
invariant-loop-dart l = record {
  number : l.edge ≡ edge_number l.plane l.dart;
  in_grid : l.in_grid ≡ true ↔ AreInGridBelow l.points l.edge;
  on_axes : l.on_axes ≡ true ↔ ((d : ℕ) → d < l.dart → is_lesser l.plane d ≡ true → IsOnAxes (path_along l.plane l.points d));
  turning : l.turning ≡ true
      ↔ ((d : ℕ) → d < l.dart → is_lesser l.plane d ≡ true → IsTurning (path_along l.plane l.points d) (turns_at l.shape d));
  listed : l.listed ≡ true
      → l.rectangles.items ≡ map (λ (q : Point). rectangle_between q q) l.points.vertices ++ flat_map strips (paths_below l.plane l.points l.dart);
  leaving : IsLeaving l.plane l.points l.directions l.dart;
}
