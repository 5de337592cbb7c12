use Rattle.dissect.proofs.StraightPaths.{plain_paths}
use Rattle.dissect.proofs.laws.darts_are_paths.Goals as goal

pub returns : goal.returns
returns c = plain_paths
