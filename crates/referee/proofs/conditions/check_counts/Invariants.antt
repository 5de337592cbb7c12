use Rattle.std.proofs.Common.{ℕ, ◌<◌, ◌≤◌, length}
use Rattle.ortho_rep.specs.declared.turn_strings.TheConstants.{MAX_TURNS}
use Rattle.ortho_rep.specs.Points.{corners_at}
use Rattle.referee.proofs.conditions.check_counts.Given as goal

abbrev pub invariant-loop-edge : goal.invariant-loop-edge
invariant-loop-edge l = (e : ℕ) → e < l.edge → length (corners_at l.points e) ≤ MAX_TURNS
