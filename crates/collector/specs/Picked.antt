-- The bytes of the chosen records of files.
use Rattle.std.specs.Prelude.{◌≡◌, ℕ, List, [], ◌++◌, if◌then◌else◌, filter, map, Option, option_to_list}
use Rattle.std.specs.Io.KnownBytes.{Appends}
use Rattle.std.specs.List.{flat_map}
use Rattle.planar_code.specs.declared.TheConstants.{HEADER}
use Rattle.streams.specs.Sink.{AppendsPrefix}
use Rattle.common.specs.declared.parameters.Choice.{Choice}
use Rattle.lanes.specs.Opening.{Meaning}
use Rattle.graph_facts.specs.declared.selection.Selection.{Selection}
use Rattle.graph_facts.specs.declared.selection.Facts.{Facts}
use Rattle.collector.specs.declared.find_facts.Flaws.{Flaws}
use Rattle.collector.specs.FactBooks.{FactEntry, FactBook, AreAllFactBooks, flaws_of}
use Rattle.graph_facts.specs.Conditions.{chooses, is_chosen}

-- the bytes of an entry's record, if it is chosen
abbrev pub picked_of : Selection → FactEntry → List ℕ
picked_of selection entry = if is_chosen selection entry.facts then entry.about.bytes else []

-- those of the chosen ones of these entries, in order
abbrev pub picked_in : Selection → List FactEntry → List ℕ
picked_in selection entries = flat_map (picked_of selection) entries

-- the chosen records of a file, in order
abbrev pub picked_of_book : Selection → FactBook → List ℕ
picked_of_book selection book = picked_in selection book.entries

-- the header, and the chosen records of all files in order
abbrev pub picked_text : Selection → List FactBook → List ℕ
picked_text selection books = HEADER ++ flat_map (picked_of_book selection) books

-- the facts of an entry's record, if it is chosen
abbrev pub chosen_of : Selection → FactEntry → List Facts
chosen_of selection entry = filter (chooses selection) (option_to_list entry.facts)

-- the facts of the chosen records of a file, in order
abbrev pub chosen_of_book : Selection → FactBook → List Facts
chosen_of_book selection book = flat_map (chosen_of selection) book.entries

-- the facts of the chosen records of files, in order
abbrev pub chosen_in : Selection → List FactBook → List Facts
chosen_in selection books = flat_map (chosen_of_book selection) books

-- The picked text of the books of this many files, which mean this, under this choice, was added. It is known how each
-- file ended, and what is lacking in it.
pub record IsAllPicked (selection : Selection) (choice : Choice) (meaning : ℕ → Meaning) (files : ℕ) (old new : Option (List ℕ)) (flaws : List Flaws) : Type 0 where
  pub books : List FactBook
  pub of_files : AreAllFactBooks choice meaning files books
  pub text : Appends old new (picked_text selection books)
  pub flaws_are : flaws ≡ map flaws_of books

-- a prefix was added of the picked text of such books, of which any may end `memory`
pub record IsPickBegun (selection : Selection) (choice : Choice) (meaning : ℕ → Meaning) (files : ℕ) (old new : Option (List ℕ)) : Type 0 where
  pub books : List FactBook
  pub of_files : AreAllFactBooks choice meaning files books
  pub text : AppendsPrefix old new (picked_text selection books)
