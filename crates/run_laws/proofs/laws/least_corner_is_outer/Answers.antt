use Rattle.run_laws.proofs.LeastCorners.{least_is_outer}
use Rattle.run_laws.proofs.laws.least_corner_is_outer.Goals as goal

pub returns : goal.returns
returns c = λ p points q plane axes has least. least_is_outer p points plane axes has.0 has.1 q least
