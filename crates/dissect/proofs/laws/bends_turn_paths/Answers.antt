use Rattle.dissect.proofs.Bends.{bend_paths}
use Rattle.dissect.proofs.laws.bends_turn_paths.Goals as goal

pub returns : goal.returns
returns c = bend_paths
