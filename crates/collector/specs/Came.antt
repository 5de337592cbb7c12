-- What has arrived of the files of a run so far.
use Rattle.std.specs.Prelude.{◌≡◌, ◌≢◌, ℕ, List, [], ◌∷◌, ◌++◌, map, Option, None, Some, All}
use Rattle.planar_code.specs.declared.partial_record.Ending.{Ending}
use Rattle.streams.specs.declared.frames.Mark.{Mark}
use Rattle.lanes.specs.Notes.{Note, of_file}
use Rattle.lanes.specs.Drafts.{abouts, mark_after}
use Rattle.reports.specs.declared.answer.Answer.{Answer}
use Rattle.reports.specs.declared.answer.Entry.{Entry}
use Rattle.reports.specs.Abouts.{about_of}

-- what has arrived of one file: entries in order, and its mark once it has ended
pub record Came : Type 0 where
  pub entries : List Entry
  pub mark : Option Mark

-- nothing has arrived of a file
abbrev pub nothing : Came
nothing = record { entries = []; mark = None }

-- the file has ended
abbrev pub HasMark : Came → Type 0
HasMark came = (mark : Mark) × (came.mark ≡ Some mark)

-- the mark of a book of a file, which is `Memory` if the file has none
abbrev pub mark_or_memory : Option Mark → Mark
mark_or_memory None = Mark.Ended Ending.Memory
mark_or_memory (Some mark) = mark

-- one more entry has arrived of this file, and nothing of the others
pub record HasEntryMore (file : ℕ) (entry : Entry) (before after : ℕ → Came) : Type 0 where
  pub here : after file ≡ record { entries = (before file).entries ++ entry ∷ []; mark = (before file).mark }
  pub others : (other : ℕ) → other ≢ file → after other ≡ before other

-- this file has ended with this mark, and nothing has arrived of the others
pub record HasMarkMore (file : ℕ) (mark : Mark) (before after : ℕ → Came) : Type 0 where
  pub here : after file ≡ record { entries = (before file).entries; mark = Some mark }
  pub others : (other : ℕ) → other ≢ file → after other ≡ before other

-- the notes say this of a file
pub record IsToldByNotes (file : ℕ) (ns : List Note) (came : Came) : Type 0 where
  pub entries : map about_of came.entries ≡ abouts (of_file file ns)
  pub mark : came.mark ≡ mark_after None (of_file file ns)

-- each entry has an answer, and no mark but that of a complete file has arrived
pub record IsFlawlessSoFar (came : Came) : Type 0 where
  pub answered : All (λ entry. entry.answer ≢ Answer.NoMemory) came.entries
  pub complete : (mark : Mark) → came.mark ≡ Some mark → mark ≡ Mark.Ended Ending.Complete
