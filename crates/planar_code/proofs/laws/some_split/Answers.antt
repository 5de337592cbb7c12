use Rattle.planar_code.proofs.Walking.{split-exists}
use Rattle.planar_code.proofs.laws.some_split.Goals as goal

pub returns : goal.returns
returns c = split-exists
