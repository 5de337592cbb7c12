use Rattle.graph_facts.proofs.ColumnNames.{listed_columns}
use Rattle.graph_facts.proofs.laws.listed_columns.Goals as goal

pub returns : goal.returns
returns c = listed_columns
