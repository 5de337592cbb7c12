use Rattle.planar_code.proofs.Feeding.{length-split}
use Rattle.planar_code.proofs.laws.few_records.Goals as goal

pub returns : goal.returns
returns c = length-split
