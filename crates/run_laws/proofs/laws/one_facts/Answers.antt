use Rattle.run_laws.proofs.OnePick.{one_facts}
use Rattle.run_laws.proofs.laws.one_facts.Goals as goal

pub returns : goal.returns
returns c = one_facts
