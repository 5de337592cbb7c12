-- The answer of a run.
use Rattle.std.specs.Prelude.{◌≡◌, ℕ, List, length}
use Rattle.common.specs.declared.parameters.Choice.{Choice}
use Rattle.lanes.specs.Opening.{Meaning}
use Rattle.reports.specs.Books.{BookModel, AreBooks}

-- the books of this many files under a choice, from the first on
pub record AreAllBooks (choice : Choice) (meaning : ℕ → Meaning) (files : ℕ) (books : List BookModel) : Type 0 where
  pub count : length books ≡ files
  pub each : AreBooks choice meaning 0 books
