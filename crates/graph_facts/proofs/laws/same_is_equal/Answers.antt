use Rattle.graph_facts.proofs.OneTable.{same_is_equal}
use Rattle.graph_facts.proofs.laws.same_is_equal.Goals as goal

pub returns : goal.returns
returns c = same_is_equal
