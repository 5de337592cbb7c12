use Rattle.planar_code.proofs.Splits.{split_same}
use Rattle.planar_code.proofs.laws.one_split.Goals as goal

pub returns : goal.returns
returns c = split_same
