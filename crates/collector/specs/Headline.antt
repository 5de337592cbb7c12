-- The guarantee of a run for a file that opens and gives all its bytes, if memory suffices.
use Rattle.std.specs.Prelude.{◌≡◌, ◌≢◌, ℕ, ◌+◌, List, [], ◌∷◌, All, ⊤}
use Rattle.planar_code.specs.declared.partial_record.Ending.{Ending}
use Rattle.planar_code.specs.Stream.{lists_of}
use Rattle.planar_code.specs.Split.{IsSplit}
use Rattle.streams.specs.declared.frames.Mark.{Mark}
use Rattle.embedding.specs.Rules.{FirstBroken}
use Rattle.common.specs.declared.parameters.Choice.{Choice}
use Rattle.reports.specs.declared.answer.Answer.{Answer}
use Rattle.reports.specs.declared.answer.Answer.TheVariants.{Laid, Refused, NoMemory}
use Rattle.reports.specs.declared.answer.Entry.{Entry}
use Rattle.reports.specs.Answers.{IsLaid}
use Rattle.answers.specs.DrawnAnswers.{IsDrawnIfLaid}
use Rattle.reports.specs.Books.{BookModel}

-- The answer names the first rule that these neighbour lists break, or gives a plane with the lists, an orthogonal
-- representation of it and its chosen outer face with the fewest bends.
abbrev pub IsDecided : Choice → List (List ℕ) → Answer → Type 0
IsDecided choice g (Laid plane shape prices drawing) = IsLaid choice g plane shape prices drawing
IsDecided choice g (Refused rule) = FirstBroken g rule
IsDecided choice g NoMemory = ⊥

-- the entry is about the record of these bytes, at this place of this file, decides it under this choice, and if it has
-- a shape has points that draw it
pub record IsEntryFor (choice : Choice) (file ordinal : ℕ) (bytes : List ℕ) (entry : Entry) : Type 0 where
  pub file_is : entry.file ≡ file
  pub ordinal_is : entry.ordinal ≡ ordinal
  pub bytes_are : entry.rec ≡ bytes
  pub choice_is : entry.choice ≡ choice
  pub decided : ∥ IsDecided choice (lists_of bytes) entry.answer ∥₁
  pub drawn : ∥ IsDrawnIfLaid entry.answer ∥₁

-- the entries are one for each record, each once and in order; the first is at this place of the file
abbrev pub AreOneForEach : Choice → ℕ → ℕ → List (List ℕ) → List Entry → Type 0
AreOneForEach choice file ordinal [] [] = ⊤
AreOneForEach choice file ordinal (bytes ∷ records) (entry ∷ entries) =
    IsEntryFor choice file ordinal bytes entry × AreOneForEach choice file (ordinal + 1) records entries
AreOneForEach choice file ordinal _ _ = ⊥

-- the entries are one for each record of the file's bytes, and the mark is their ending
pub record IsWholeRun (choice : Choice) (file : ℕ) (bytes : List ℕ) (book : BookModel) : Type 0 where
  pub records : List (List ℕ)
  pub end : Ending
  pub split : IsSplit bytes records end
  pub entries : AreOneForEach choice file 0 records book.entries
  pub mark : book.mark ≡ Mark.Ended end

-- memory did not run out anywhere in the book
pub record HasMemory (book : BookModel) : Type 0 where
  pub mark : book.mark ≢ Mark.Ended Ending.Memory
  pub answers : All (λ entry. entry.answer ≢ Answer.NoMemory) book.entries
