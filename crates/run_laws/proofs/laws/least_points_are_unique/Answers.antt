use Rattle.run_laws.proofs.LeastPoints.{least_points_once}
use Rattle.run_laws.proofs.laws.least_points_are_unique.Goals as goal

pub returns : goal.returns
returns c = least_points_once
