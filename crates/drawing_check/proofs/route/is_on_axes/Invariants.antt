use Rattle.std.proofs.Common.{ℕ, ◌+◌, ◌<◌}
use Rattle.drawing_check.specs.Paths.{point_of}
use Rattle.drawing_check.specs.Draws.{IsAxis}
use Rattle.drawing_check.specs.Routes.{path_of}
use Rattle.drawing_check.proofs.route.is_on_axes.Given as goal

abbrev pub invariant-loop-k : goal.invariant-loop-k
invariant-loop-k l =
    (j : ℕ) → j < l.k → IsAxis (point_of (path_of l.route) j) (point_of (path_of l.route) (j + 1))
