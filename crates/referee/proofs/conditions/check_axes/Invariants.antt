use Rattle.std.proofs.Common.{◌≡◌, ℕ, ◌<◌, true}
use Rattle.ortho_rep.specs.Edges.{is_lesser, edge_number}
use Rattle.drawing_check.specs.Paths.{path_along}
use Rattle.drawing_check.specs.Draws.{IsOnAxes}
use Rattle.referee.proofs.conditions.check_axes.Given as goal

abbrev pub invariant-loop-dart : goal.invariant-loop-dart
invariant-loop-dart l = record {
  number : l.edge ≡ edge_number l.plane l.dart;
  on_axes : (d : ℕ) → d < l.dart → is_lesser l.plane d ≡ true → IsOnAxes (path_along l.plane l.points d);
}
