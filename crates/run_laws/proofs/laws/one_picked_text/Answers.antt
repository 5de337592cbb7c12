use Rattle.run_laws.proofs.OnePick.{one_picked_text}
use Rattle.run_laws.proofs.laws.one_picked_text.Goals as goal

pub returns : goal.returns
returns c = one_picked_text
