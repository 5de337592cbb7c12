use Rattle.planar_code.proofs.Feeding.{standing-front}
use Rattle.planar_code.proofs.laws.records_begin.Goals as goal

pub returns : goal.returns
returns c = standing-front
