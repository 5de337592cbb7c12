use Rattle.planar_code.proofs.Feeding.{open-running}
use Rattle.planar_code.proofs.laws.running_may_go_on.Goals as goal

pub returns : goal.returns
returns c = open-running
