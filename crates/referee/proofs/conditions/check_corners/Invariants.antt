use Rattle.std.proofs.Common.{ℕ, ◌<◌, [], get_or, All}
use Rattle.drawing_check.specs.Draws.{IsInGrid}
use Rattle.referee.proofs.conditions.check_corners.Given as goal

abbrev pub invariant-loop-edge : goal.invariant-loop-edge
invariant-loop-edge l = (e : ℕ) → e < l.edge → All IsInGrid (get_or l.points.corners e [])
