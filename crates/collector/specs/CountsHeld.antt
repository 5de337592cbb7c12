-- How a table relates to the notes of a run.
use Rattle.std.specs.Prelude.{◌≡◌, ◌<◌, ℕ, zero, suc, List, [], ◌∷◌, ◌++◌, length, slice_index_or}
use Rattle.std.proofs.Common.{refl}
use Rattle.lanes.specs.Notes.{Note, Stop}
use Rattle.collector.specs.Came.{IsToldByNotes}
use Rattle.collector.specs.Stops.{told_same}
use Rattle.graph_facts.specs.declared.selection.Selection.{Selection}
use Rattle.graph_facts.specs.declared.selection.Facts.{Facts}
use Rattle.collector.specs.declared.find_facts.Flaws.{Flaws}
use Rattle.collector.specs.FactBooks.{flaws_of}
use Rattle.collector.specs.Picked.{chosen_of_book}
use Rattle.collector.specs.Arrived.{Arrived, book_so_far, records_of}
use Rattle.graph_facts.specs.Tables.{IsTable, TableModel}

-- the facts of what is chosen in the first files, one file after another
abbrev pub chosen_up_to : Selection → (ℕ → Arrived) → ℕ → List Facts
chosen_up_to selection arrived zero = []
chosen_up_to selection arrived (suc file) = chosen_up_to selection arrived file ++ chosen_of_book selection (book_so_far (arrived file))

-- the table is that of what is chosen of what the notes say, and the flaws are those of that
pub record CountsHold (selection : Selection) (table : TableModel) (flaws : List Flaws) (ns : List Note) : Type 0 where
  pub arrived : ℕ → Arrived
  pub told : (file : ℕ) → file < length flaws → IsToldByNotes file ns (records_of (arrived file))
  pub flaws_are : (file : ℕ) (other : Flaws) → file < length flaws → slice_index_or flaws file other ≡ flaws_of (book_so_far (arrived file))
  pub is_table : IsTable (chosen_up_to selection arrived (length flaws)) table

-- a stop says nothing about any file
pub counted_stop : (selection : Selection) (table : TableModel) (flaws : List Flaws) (ns : List Note) → CountsHold selection table flaws ns → CountsHold selection table flaws (ns ++ Stop ∷ [])
counted_stop selection table flaws ns held = record {
  arrived = held.arrived;
  told = λ k below. told_same k ns Stop (records_of (held.arrived k)) refl (held.told k below);
  flaws_are = held.flaws_are;
  is_table = held.is_table;
}
