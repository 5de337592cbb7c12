use Rattle.run_laws.proofs.Meanings.{means}
use Rattle.run_laws.proofs.laws.laid_means.Goals as goal

pub returns : goal.returns
returns c = means
