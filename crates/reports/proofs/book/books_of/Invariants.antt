use Rattle.std.proofs.Common.{◌≡◌, ◌+◌, ℕ, length, vec_len}
use Rattle.common.specs.declared.parameters.Choice.{Choice}
use Rattle.lanes.specs.Opening.{Meaning}
use Rattle.lanes.specs.Files.{AreReady}
use Rattle.reports.specs.Abouts.{about_of}
use Rattle.reports.specs.Books.{AreBooks}
use Rattle.reports.proofs.book.books_of.Given as goal

abbrev pub invariant-loop-draft : goal.invariant-loop-draft
invariant-loop-draft l = record {
  count : vec_len l.books + length l.draft-iterator.rest.items ≡ vec_len l.fn.drafts;
  some : (choice : Choice) × (meaning : ℕ → Meaning) × AreReady about_of choice meaning (vec_len l.books) l.draft-iterator.rest.items;
  book_of : (choice : Choice) (meaning : ℕ → Meaning) → AreReady about_of choice meaning 0 l.fn.drafts.items
      → AreBooks choice meaning 0 l.books.items × AreReady about_of choice meaning (vec_len l.books) l.draft-iterator.rest.items;
}
