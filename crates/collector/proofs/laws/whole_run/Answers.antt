use Rattle.collector.proofs.Headline.{whole_runs}
use Rattle.collector.proofs.laws.whole_run.Goals as goal

pub returns : goal.returns
returns c = whole_runs
