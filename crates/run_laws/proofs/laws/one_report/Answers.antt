use Rattle.run_laws.proofs.WholeReports.{whole_texts}
use Rattle.run_laws.proofs.laws.one_report.Goals as goal

pub returns : goal.returns
returns c = whole_texts
