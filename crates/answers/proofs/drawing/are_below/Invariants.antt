use Rattle.std.proofs.Common.{ℕ, ◌<◌, All}
use Rattle.ortho_rep.specs.Points.{corners_at, IsBelow}
use Rattle.answers.proofs.drawing.are_below.Given as goal

abbrev pub invariant-loop-edge : goal.invariant-loop-edge
invariant-loop-edge l = (e : ℕ) → e < l.edge → All (IsBelow l.limit) (corners_at l.points e)
