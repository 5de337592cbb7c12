use Rattle.answers.proofs.Remaining.{laid_in_grid, never_out}
use Rattle.answers.proofs.laws.least_points_are_in_grid.Goals as goal

pub returns : goal.returns
returns c = record { points = laid_in_grid; cause = never_out }
