use Rattle.run_laws.proofs.OneCount.{one_counted_text}
use Rattle.run_laws.proofs.laws.one_counted_text.Goals as goal

pub returns : goal.returns
returns c = one_counted_text
