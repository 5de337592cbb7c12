use Rattle.graph_facts.proofs.OneTable.{one_table}
use Rattle.graph_facts.proofs.laws.one_table.Goals as goal

pub returns : goal.returns
returns c = one_table
