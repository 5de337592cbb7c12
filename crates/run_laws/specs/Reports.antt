-- The texts that are reports of right books, and when two runs are about the same bytes.
use Rattle.std.specs.Prelude.{◌≡◌, ◌≢◌, ℕ, ◌<◌, List, ◌++◌, Some, codes}
use Rattle.common.specs.declared.parameters.Choice.{Choice}
use Rattle.lanes.specs.Opening.{Meaning, known_of, fails_of}
use Rattle.reports.specs.Books.{BookModel}
use Rattle.reports.specs.AllBooks.{AreAllBooks}
use Rattle.reports.specs.Report.{report_text}

-- the text is the report of books that are right for this many files under this choice
pub record IsReport (choice : Choice) (meaning : ℕ → Meaning) (files : ℕ) (text : List ℕ) : Type 0 where
  pub books : List BookModel
  pub of_files : AreAllBooks choice meaning files books
  pub text_is : text ≡ report_text books

-- the same bytes are known of two files, and both fail after them or both end
pub record AreKnownAlike (meaning other : Meaning) : Type 0 where
  pub bytes : List ℕ
  pub known : known_of meaning ≡ Some bytes
  pub known_too : known_of other ≡ Some bytes
  pub fails : fails_of meaning ≡ fails_of other

-- this holds for each two of this many files that have the same number
abbrev pub AreAllKnownAlike : ℕ → (ℕ → Meaning) → (ℕ → Meaning) → Type 0
AreAllKnownAlike files meaning other = (file : ℕ) → file < files → AreKnownAlike (meaning file) (other file)

-- the word "memory" does not occur in the text
abbrev pub HasNoMemoryWord : List ℕ → Type 0
HasNoMemoryWord text = (front back : List ℕ) → text ≢ front ++ codes "memory" ++ back
