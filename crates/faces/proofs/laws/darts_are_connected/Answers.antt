use Rattle.faces.proofs.Connected.{all_connected}
use Rattle.faces.proofs.laws.darts_are_connected.Goals as goal

pub returns : goal.returns
returns c = all_connected
