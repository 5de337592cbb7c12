-- Books of drafts that are ready.
use Rattle.std.proofs.Common.{◌≡◌, ℕ, Some, IsSome, refl, sym, subst}
use Rattle.streams.specs.declared.frames.Mark.{Mark}
use Rattle.common.specs.declared.parameters.Choice.{Choice}
use Rattle.lanes.specs.declared.gathering.Draft.{Draft}
use Rattle.lanes.specs.Opening.{Meaning}
use Rattle.lanes.specs.Files.{IsWholeDraft}
use Rattle.reports.specs.declared.answer.Entry.{Entry}
use Rattle.reports.specs.Abouts.{about_of}
use Rattle.reports.specs.Books.{BookModel, IsBook}
use Rattle.reports.proofs.KeptBooks.{all_answered}

pub ready_some : (choice : Choice) (meaning : Meaning) (file : ℕ) (draft : Draft Entry) → IsWholeDraft about_of choice meaning file draft → IsSome draft.mark
ready_some choice meaning file draft ready = subst (λ m. IsSome m) (sym ready.marked) refl

pub book_ready : (choice : Choice) (meaning : Meaning) (file : ℕ) (draft : Draft Entry) (book : BookModel) → IsWholeDraft about_of choice meaning file draft
    → ((mark : Mark) → draft.mark ≡ Some mark → book ≡ record { entries = draft.entries.items; mark = mark }) → IsBook choice meaning file book
book_ready choice meaning file draft book ready is =
    subst (IsBook choice meaning file) (sym (is ready.mark ready.marked)) (record { whole = ready.whole; answered = all_answered draft.entries.items })
