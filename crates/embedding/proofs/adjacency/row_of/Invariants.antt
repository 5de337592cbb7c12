use Rattle.embedding.proofs.RowWords.{IsRead, AreFlagged}
use Rattle.embedding.proofs.adjacency.row_of.Given as goal

abbrev pub invariant-loop-entry : goal.invariant-loop-entry
invariant-loop-entry l = record {
  row : IsRead l.n l.vertex l.list l.entry-index l.row;
  columns : AreFlagged l.vertex l.list l.entry-index l.initial.columns l.columns;
}
