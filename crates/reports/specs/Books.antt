-- The result of a run: a book for each file.
use Rattle.std.specs.Prelude.{ℕ, ◌+◌, List, [], ◌∷◌, All, ⊤}
use Rattle.planar_code.specs.Stream.{lists_of}
use Rattle.streams.specs.declared.frames.Mark.{Mark}
use Rattle.common.specs.declared.parameters.Choice.{Choice}
use Rattle.lanes.specs.Opening.{Meaning}
use Rattle.lanes.specs.Drafts.{IsWhole}
use Rattle.reports.specs.declared.answer.Entry.{Entry}
use Rattle.reports.specs.Abouts.{about_of}
use Rattle.reports.specs.Answers.{Answers}

-- the model of a book: the entries of a file in order, and its one mark
pub record BookModel : Type 0 where
  pub entries : List Entry
  pub mark : Mark

-- The book of a file that means this, under a choice of the outer face. Entry k names the file and k, its record is
-- record k of the file, and its choice is this one; there is no other entry, and the mark is the file's. Each entry's
-- answer is right for its record under its choice.
pub record IsBook (choice : Choice) (meaning : Meaning) (file : ℕ) (book : BookModel) : Type 0 where
  pub whole : IsWhole about_of choice meaning file book.entries book.mark
  pub answered : All (λ entry. ∥ Answers entry.choice (lists_of entry.rec) entry.answer ∥₁) book.entries

-- the books of consecutive files, the first of which has this number
abbrev pub AreBooks : Choice → (ℕ → Meaning) → ℕ → List BookModel → Type 0
AreBooks choice meaning file [] = ⊤
AreBooks choice meaning file (book ∷ books) = IsBook choice (meaning file) file book × AreBooks choice meaning (file + 1) books
