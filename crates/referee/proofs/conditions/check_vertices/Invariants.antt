use Rattle.std.proofs.Common.{ℕ, ◌<◌, get_or}
use Rattle.ortho_rep.specs.Points.{origin}
use Rattle.drawing_check.specs.Draws.{IsInGrid}
use Rattle.referee.proofs.conditions.check_vertices.Given as goal

abbrev pub invariant-loop-place : goal.invariant-loop-place
invariant-loop-place l = (k : ℕ) → k < l.place → IsInGrid (get_or l.points.vertices k origin)
