use Rattle.run_laws.proofs.OuterFaces.{best_once}
use Rattle.run_laws.proofs.laws.one_best.Goals as goal

pub returns : goal.returns
returns c = best_once
