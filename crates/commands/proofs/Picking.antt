-- What runs that pick and count leave, for the files that a request names.
use Rattle.std.proofs.Common.{◌≡◌, ◌≢◌, ◌⊎◌, ◌↔◌, inl, inr, ℕ, Bool, false, List, [], ◌∷◌, Option, All, map, sym, subst}
use Rattle.std.proofs.lemmas.List.Elements.{All-nil, All-cons, All-head, All-tail}
use Rattle.lanes.specs.Opening.{Meaning}
use Rattle.named_sources.specs.Naming.{meanings_in}
use Rattle.command_line.specs.declared.request.PickRequest.{PickRequest}
use Rattle.command_line.specs.declared.request.CountRequest.{CountRequest}
use Rattle.collector.specs.declared.find_facts.Flaws.{Flaws}
use Rattle.collector.specs.FactBooks.{FactBook, IsFlawless, IsFlawlessFacts, flaws_of}
use Rattle.collector.specs.Picked.{IsAllPicked}
use Rattle.commands.proofs.NoFlaws.{flawless_flaws}
use Rattle.commands.specs.Statuses.{AreCountsWritten, ErrorOutput, IsTextOfCounted, IsTextOfPicked, TellsFlaws}
use Rattle.std.specs.Prelude.{vec_len}

-- all books are flawless if their flaws are none
all_flawless : (books : List FactBook) → All IsFlawless (map flaws_of books) → All IsFlawlessFacts books
all_flawless [] all = All-nil IsFlawlessFacts
all_flawless (book ∷ books) all =
    All-cons IsFlawlessFacts book books ((flawless_flaws book).1 (All-head IsFlawless (flaws_of book) (map flaws_of books) all))
    (all_flawless books (All-tail IsFlawless (flaws_of book) (map flaws_of books) all))

none_lacking : (books : List FactBook) → All IsFlawlessFacts books → All IsFlawless (map flaws_of books)
none_lacking [] all = All-nil IsFlawless
none_lacking (book ∷ books) all =
    All-cons IsFlawless (flaws_of book) (map flaws_of books) ((flawless_flaws book).0 (All-head IsFlawlessFacts book books all))
    (none_lacking books (All-tail IsFlawlessFacts book books all))

either_else : (status : ℕ) → (status ≡ 0) ⊎ (status ≡ 3) → status ≢ 0 → status ≡ 3
either_else status (inl is) never = absurd (never is)
either_else status (inr is) never = is

module _ (files : List ℕ → Meaning) (err : ErrorOutput) (old new : Option (List ℕ)) (failed : Bool) (flaws : List Flaws) (status : ℕ)
    (stands : failed ≡ false) (flawless : (status ≡ 0) ↔ All IsFlawless flaws) (other : (status ≡ 0) ⊎ (status ≡ 3)) where
  status_is : (books : List FactBook) → flaws ≡ map flaws_of books → All IsFlawlessFacts books ↔ (status ≡ 0)
  status_is books are = (
    (λ all. flawless.1 (subst (All IsFlawless) (sym are) (none_lacking books all))),
    (λ zero. all_flawless books (subst (All IsFlawless) are (flawless.0 zero))),
  )

  pub text_of_picked : (asked : PickRequest) → IsAllPicked asked.selection asked.run.choice (meanings_in files asked.run.names.items) (vec_len asked.run.names) old new flaws
      → TellsFlaws err asked.run.names.items flaws → IsTextOfPicked files asked err old new failed status
  text_of_picked asked is told = record {
    books = is.books;
    of_files = is.of_files;
    text = is.text;
    written = stands;
    flawless = status_is is.books is.flaws_are;
    other = either_else status other;
    told = subst (TellsFlaws err asked.run.names.items) is.flaws_are told;
  }

  pub text_of_counted : (asked : CountRequest) → AreCountsWritten asked.selection asked.columns asked.run.choice (meanings_in files asked.run.names.items) (vec_len asked.run.names) old new flaws
      → TellsFlaws err asked.run.names.items flaws → IsTextOfCounted files asked err old new failed status
  text_of_counted asked is told = record {
    books = is.1.books;
    of_files = is.1.of_files;
    table = is.0;
    columns = is.1.columns_are;
    counted = is.1.is_table;
    text = is.2;
    written = stands;
    flawless = status_is is.1.books is.1.flaws_are;
    other = either_else status other;
    told = subst (TellsFlaws err asked.run.names.items) is.1.flaws_are told;
  }
