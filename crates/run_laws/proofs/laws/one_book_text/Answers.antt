use Rattle.run_laws.proofs.WholeReports.{one_told}
use Rattle.run_laws.proofs.laws.one_book_text.Goals as goal

pub returns : goal.returns
returns c = one_told
