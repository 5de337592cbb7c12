use Rattle.std.proofs.Common.{refl}
use Rattle.graph_facts.proofs.laws.chosen_or_other.Goals as goal

pub returns : goal.returns
returns c = λ conditions facts. refl
