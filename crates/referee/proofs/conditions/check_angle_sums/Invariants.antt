use Rattle.std.proofs.Common.{◌≡◌, ℕ, ◌≤◌}
use Rattle.ortho_rep.specs.Shapes.{angle_at}
use Rattle.ortho_rep.specs.Representation.{angles_around}
use Rattle.referee.proofs.conditions.check_angle_sums.Given as goal

abbrev pub invariant-loop-place : goal.invariant-loop-place
invariant-loop-place l = (v : ℕ) → 1 ≤ v → v ≤ l.place → angles_around l.plane (angle_at l.shape) v ≡ 4
