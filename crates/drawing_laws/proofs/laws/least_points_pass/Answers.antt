use Rattle.drawing_laws.proofs.Drawn.{least_points_passed}
use Rattle.drawing_laws.proofs.laws.least_points_pass.Goals as goal

pub returns : goal.returns
returns c = least_points_passed
