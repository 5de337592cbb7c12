use Rattle.std.proofs.Common.{ℕ, ◌<◌, get_or}
use Rattle.ortho_rep.specs.Points.{origin}
use Rattle.drawing_check.specs.Draws.{IsInGrid}
use Rattle.referee.proofs.conditions.check_edge_corners.Given as goal

abbrev pub invariant-loop-corner : goal.invariant-loop-corner
invariant-loop-corner l = (k : ℕ) → k < l.corner → IsInGrid (get_or l.corners k origin)
