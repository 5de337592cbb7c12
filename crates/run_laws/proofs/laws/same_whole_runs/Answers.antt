use Rattle.run_laws.proofs.WholeRuns.{same_runs}
use Rattle.run_laws.proofs.laws.same_whole_runs.Goals as goal

pub returns : goal.returns
returns c = same_runs
