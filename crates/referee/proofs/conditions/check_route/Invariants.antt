use Rattle.std.proofs.Common.{ℕ, ◌+◌, ◌<◌}
use Rattle.drawing_check.specs.Paths.{point_of}
use Rattle.drawing_check.specs.Draws.{IsAxis}
use Rattle.drawing_check.specs.Routes.{path_of}
use Rattle.referee.proofs.conditions.check_route.Given as goal

abbrev pub invariant-loop-part : goal.invariant-loop-part
invariant-loop-part l =
    (j : ℕ) → j < l.part → IsAxis (point_of (path_of l.route) j) (point_of (path_of l.route) (j + 1))
