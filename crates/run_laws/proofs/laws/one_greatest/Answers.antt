use Rattle.run_laws.proofs.OuterFaces.{greatest_once}
use Rattle.run_laws.proofs.laws.one_greatest.Goals as goal

pub returns : goal.returns
returns c = greatest_once
