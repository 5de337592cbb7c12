use Rattle.run_laws.proofs.WholeRuns.{as_report}
use Rattle.run_laws.proofs.laws.written_is_report.Goals as goal

pub returns : goal.returns
returns c = as_report
