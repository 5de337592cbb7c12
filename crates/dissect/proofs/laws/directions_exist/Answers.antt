use Rattle.dissect.proofs.Existence.{plane_directions}
use Rattle.dissect.proofs.laws.directions_exist.Goals as goal

pub returns : goal.returns
returns c = plane_directions
