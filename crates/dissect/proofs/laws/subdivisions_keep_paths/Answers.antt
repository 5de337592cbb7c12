use Rattle.dissect.proofs.Splits.{split_paths}
use Rattle.dissect.proofs.laws.subdivisions_keep_paths.Goals as goal

pub returns : goal.returns
returns c = split_paths
