-- What is known of the graphs of files: a book of facts for each file.
use Rattle.std.specs.Prelude.{◌≡◌, ◌≢◌, ◌+◌, ℕ, List, [], ◌∷◌, length, Option, None, All, is_none, if◌then◌else◌, count_by, ⊤}
use Rattle.planar_code.specs.declared.partial_record.Ending.{Ending}
use Rattle.planar_code.specs.Stream.{lists_of}
use Rattle.streams.specs.declared.frames.Mark.{Mark}
use Rattle.common.specs.declared.parameters.Choice.{Choice}
use Rattle.lanes.specs.Notes.{About}
use Rattle.lanes.specs.Opening.{Meaning}
use Rattle.lanes.specs.Drafts.{IsWhole}
use Rattle.graph_facts.specs.declared.selection.Facts.{Facts}
use Rattle.collector.specs.declared.find_facts.Flaws.{Flaws}
use Rattle.graph_facts.specs.Facts.{AreFacts}

-- a record of a file, and what is known of its graph, which is right for it; nothing if memory ran out for it
pub record FactEntry : Type 0 where
  pub about : About
  pub facts : Option Facts
  pub right : ∥ AreFacts about.choice (lists_of about.bytes) facts ∥₁

abbrev pub about_of : FactEntry → About
about_of entry = entry.about

-- the entries of a file in order, and its one mark
pub record FactBook : Type 0 where
  pub entries : List FactEntry
  pub mark : Mark

-- The book of a file that means this, under a choice of the outer face. Entry k is about record k of the file under this
-- choice; there is no other entry, and the mark is the file's. That its facts are right is part of each entry.
pub record IsFactBook (choice : Choice) (meaning : Meaning) (file : ℕ) (book : FactBook) : Type 0 where
  pub whole : IsWhole about_of choice meaning file book.entries book.mark

-- the books of consecutive files, the first of which has this number
abbrev pub AreFactBooks : Choice → (ℕ → Meaning) → ℕ → List FactBook → Type 0
AreFactBooks choice meaning file [] = ⊤
AreFactBooks choice meaning file (book ∷ books) = IsFactBook choice (meaning file) file book × AreFactBooks choice meaning (file + 1) books

-- the books of this many files under a choice, from the first on
pub record AreAllFactBooks (choice : Choice) (meaning : ℕ → Meaning) (files : ℕ) (books : List FactBook) : Type 0 where
  pub count : length books ≡ files
  pub each : AreFactBooks choice meaning 0 books

-- ---- what is lacking

-- the file ended complete, and something is known of each of its graphs, since memory did not run out
pub record IsFlawlessFacts (book : FactBook) : Type 0 where
  pub complete : book.mark ≡ Mark.Ended Ending.Complete
  pub answered : All (λ entry. entry.facts ≢ None) book.entries

-- how many entries lack facts
abbrev pub unanswered : List FactEntry → ℕ
unanswered entries = count_by (λ entry. is_none entry.facts) entries

-- the place in its file of the first entry that lacks facts; 0 if none does
abbrev pub first_unanswered : List FactEntry → ℕ
first_unanswered [] = 0
first_unanswered (entry ∷ entries) = if is_none entry.facts then entry.about.ordinal else first_unanswered entries

-- how a file ended, and what is lacking in it
abbrev pub flaws_of : FactBook → Flaws
flaws_of book = record { mark = book.mark; unanswered = unanswered book.entries; first = first_unanswered book.entries }

-- nothing is lacking
abbrev pub IsFlawless : Flaws → Type 0
IsFlawless flaws = (flaws.mark ≡ Mark.Ended Ending.Complete) × (flaws.unanswered ≡ 0)
