use Rattle.faces.proofs.Ends.{plane_ends}
use Rattle.faces.proofs.laws.planes_have_ends.Goals as goal

pub returns : goal.returns
returns c = plane_ends
