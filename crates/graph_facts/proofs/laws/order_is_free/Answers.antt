use Rattle.graph_facts.proofs.OneTable.{order_is_free}
use Rattle.graph_facts.proofs.laws.order_is_free.Goals as goal

pub returns : goal.returns
returns c = order_is_free
