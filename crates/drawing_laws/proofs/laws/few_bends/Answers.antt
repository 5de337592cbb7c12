use Rattle.drawing_laws.proofs.FewBends.{few_inner, few_five, few_six}
use Rattle.drawing_laws.proofs.laws.few_bends.Goals as goal

pub returns : goal.returns
returns c = record { inner = few_inner; five = few_five; six = few_six }
