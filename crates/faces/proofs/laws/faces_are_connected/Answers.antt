use Rattle.faces.proofs.Connected.{faces_connected}
use Rattle.faces.proofs.laws.faces_are_connected.Goals as goal

pub returns : goal.returns
returns c = faces_connected
