-- The table of the chosen graphs of files.
use Rattle.std.specs.Prelude.{◌≡◌, ℕ, List, map}
use Rattle.common.specs.declared.parameters.Choice.{Choice}
use Rattle.lanes.specs.Opening.{Meaning}
use Rattle.graph_facts.specs.declared.table.Columns.{Columns}
use Rattle.graph_facts.specs.declared.selection.Selection.{Selection}
use Rattle.collector.specs.declared.find_facts.Flaws.{Flaws}
use Rattle.collector.specs.FactBooks.{FactBook, AreAllFactBooks, flaws_of}
use Rattle.collector.specs.Picked.{chosen_in}
use Rattle.graph_facts.specs.Tables.{IsTable, TableModel}

-- The table in these columns is that of the chosen graphs in the books of this many files, which mean this, under this
-- choice. It is known how each file ended, and what is lacking in it.
pub record IsAllCounted (selection : Selection) (columns : Columns) (choice : Choice) (meaning : ℕ → Meaning) (files : ℕ) (flaws : List Flaws) (table : TableModel) : Type 0 where
  pub books : List FactBook
  pub of_files : AreAllFactBooks choice meaning files books
  pub flaws_are : flaws ≡ map flaws_of books
  pub columns_are : table.columns ≡ columns
  pub is_table : IsTable (chosen_in selection books) table
