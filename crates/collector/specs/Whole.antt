-- The whole text of a run.
use Rattle.std.specs.Prelude.{◌≡◌, ◌↔◌, ◌⊎◌, ℕ, ◌+◌, ◌<◌, ◌≤◌, List, ◌++◌, length, Option, All}
use Rattle.std.specs.Io.KnownBytes.{Appends}
use Rattle.planar_code.specs.declared.partial_record.Ending.{Ending}
use Rattle.streams.specs.declared.frames.Mark.{Mark}
use Rattle.streams.specs.Sink.{AppendsPrefix}
use Rattle.common.specs.declared.parameters.Choice.{Choice}
use Rattle.lanes.specs.Notes.{Note}
use Rattle.lanes.specs.Opening.{Meaning}
use Rattle.lanes.specs.Files.{HasFile}
use Rattle.reports.specs.declared.answer.Entry.{Entry}
use Rattle.reports.specs.Books.{BookModel, IsBook, AreBooks}
use Rattle.reports.specs.AllBooks.{AreAllBooks}
use Rattle.streams.specs.declared.frames.Form.{Form}
use Rattle.reports.specs.Forms.{text_in}
use Rattle.reports.specs.FlawlessBooks.{IsFlawlessBook}
use Rattle.collector.specs.FormLines.{preamble_in, lines_in}

-- the notes say all of each of this many files
abbrev pub HaveFiles : Choice → (ℕ → Meaning) → ℕ → List Note → Type 0
HaveFiles choice meaning files ns = (file : ℕ) → file < files → HasFile choice (meaning file) file ns

-- the text of the books of this many files was added after `start`, and the status is 0 exactly if each book is
-- flawless
pub record IsAllWritten (choice : Choice) (meaning : ℕ → Meaning) (form : Form) (files : ℕ) (start now : Option (List ℕ)) (status : ℕ) : Type 0 where
  pub books : List BookModel
  pub of_files : AreAllBooks choice meaning files books
  pub text : Appends start now (text_in form books)
  pub flawless : (status ≡ 0) ↔ All IsFlawlessBook books

-- The entries are the first of a file that means this: those that its book may have if memory runs out.
abbrev pub AreFirst : Choice → Meaning → ℕ → List Entry → Type 0
AreFirst choice meaning file entries = IsBook choice meaning file (record { entries = entries; mark = Mark.Ended Ending.Memory })

-- These are books of the first of this many files, of which any may end because memory ran out. After `start` a prefix
-- was added of their text, or of it and the lines of the first entries of the next file, which has no last line.
pub record IsBegun (choice : Choice) (meaning : ℕ → Meaning) (form : Form) (files : ℕ) (start now : Option (List ℕ)) : Type 0 where
  pub books : List BookModel
  pub of_files : AreBooks choice meaning 0 books
  pub few : length books ≤ files
  pub text : AppendsPrefix start now (text_in form books)
      ⊎ ((length books < files) × ((entries : List Entry) × AreFirst choice (meaning (length books)) (length books) entries
      × AppendsPrefix start now (text_in form books ++ preamble_in form (length books + 1) ++ lines_in form entries)))
