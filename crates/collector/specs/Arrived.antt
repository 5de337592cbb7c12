-- What has arrived of the files of a run so far.
use Rattle.std.specs.Prelude.{◌≡◌, ◌≢◌, ◌+◌, ◌==◌, ℕ, zero, suc, List, [], ◌∷◌, ◌++◌, map, Option, None, Some, if◌then◌else◌}
use Rattle.std.proofs.lemmas.Grind.{merely}
use Rattle.streams.specs.declared.frames.Mark.{Mark}
use Rattle.reports.specs.declared.answer.Answer.{Answer}
use Rattle.reports.specs.declared.answer.Entry.{Entry}
use Rattle.collector.specs.Answered.{entry_of}
use Rattle.collector.specs.Came.{Came, mark_or_memory}
use Rattle.graph_facts.specs.declared.selection.Selection.{Selection}
use Rattle.graph_facts.specs.declared.selection.Facts.{Facts}
use Rattle.collector.specs.declared.find_facts.Flaws.{Flaws}
use Rattle.collector.specs.FactBooks.{FactEntry, FactBook}
use Rattle.collector.specs.Picked.{picked_in}

-- what has arrived of one file: entries in order, and its mark once it has ended
pub record Arrived : Type 0 where
  pub entries : List FactEntry
  pub mark : Option Mark

-- nothing has arrived of a file
abbrev pub none_arrived : Arrived
none_arrived = record { entries = []; mark = None }

-- one more entry has arrived of this file, and nothing of the others
pub record HasEntryMore (file : ℕ) (entry : FactEntry) (before after : ℕ → Arrived) : Type 0 where
  pub here : after file ≡ record { entries = (before file).entries ++ entry ∷ []; mark = (before file).mark }
  pub others : (other : ℕ) → other ≢ file → after other ≡ before other

-- this file has ended with this mark, and nothing has arrived of the others
pub record HasEndMore (file : ℕ) (mark : Mark) (before after : ℕ → Arrived) : Type 0 where
  pub here : after file ≡ record { entries = (before file).entries; mark = Some mark }
  pub others : (other : ℕ) → other ≢ file → after other ≡ before other

-- the book of what has arrived; it ends `memory` if the file has not ended
abbrev pub book_so_far : Arrived → FactBook
book_so_far arrived = record { entries = arrived.entries; mark = mark_or_memory arrived.mark }

-- the books of what has arrived of the first files
abbrev pub books_up_to : (ℕ → Arrived) → ℕ → List FactBook
books_up_to arrived zero = []
books_up_to arrived (suc file) = books_up_to arrived file ++ book_so_far (arrived file) ∷ []

-- ---- the records alone

-- an entry with this record, place and choice, without an answer
abbrev pub record_of : FactEntry → Entry
record_of entry = entry_of entry.about.file entry.about.ordinal entry.about.bytes entry.about.choice Answer.NoMemory (merely tt)

-- the records that have arrived, and the mark
abbrev pub records_of : Arrived → Came
records_of arrived = record { entries = map record_of arrived.entries; mark = arrived.mark }

-- ---- what is made of it

-- the chosen records of the first files, one file after another
abbrev pub picked_up_to : Selection → (ℕ → Arrived) → ℕ → List ℕ
picked_up_to selection arrived zero = []
picked_up_to selection arrived (suc file) = picked_up_to selection arrived file ++ picked_in selection (arrived file).entries

-- flaws with those of one more record of this place, of which this is known
abbrev pub flaws_with : Flaws → ℕ → Option Facts → Flaws
flaws_with flaws place None = record {
  mark = flaws.mark;
  unanswered = flaws.unanswered + 1;
  first = if flaws.unanswered == 0 then place else flaws.first;
}
flaws_with flaws place (Some facts) = flaws
