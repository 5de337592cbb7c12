-- What is held of all notes of a run is the text of its books.
use Rattle.std.proofs.Common.{◌≡◌, ◌↔◌, ℕ, zero, suc, ◌+◌, ◌<◌, ◌≤◌, Bool, true, List, [], ◌∷◌, ◌++◌, length, map, Option, None, Some, All, inl, inr, refl, sym, ap, subst, ◌∙◌, arith, append-nil, length-append}
use Rattle.std.proofs.lemmas.Bool.{cases_lt}
use Rattle.std.proofs.lemmas.List.Elements.{All-push, All-nil}
use Rattle.std.specs.Io.KnownBytes.{Appends}
use Rattle.streams.specs.declared.frames.Mark.{Mark}
use Rattle.streams.specs.FrameLines.{added_both}
use Rattle.common.specs.declared.parameters.Choice.{Choice}
use Rattle.lanes.specs.Notes.{About, Note, numbered, Item}
use Rattle.lanes.specs.Opening.{Meaning}
use Rattle.lanes.specs.Drafts.{abouts, mark_after}
use Rattle.lanes.specs.Files.{HasFile}
use Rattle.reports.specs.Books.{BookModel, IsBook, AreBooks}
use Rattle.reports.proofs.KeptBooks.{all_answered, books_more}
use Rattle.streams.specs.declared.frames.Form.{Form}
use Rattle.reports.specs.Report.{numbered_texts}
use Rattle.reports.specs.Forms.{text_in}
use Rattle.reports.specs.FlawlessBooks.{IsFlawlessBook}
use Rattle.reports.proofs.TextParts.{texts-append}
use Rattle.collector.specs.FormLines.{book_in}
use Rattle.collector.proofs.BookTexts.{text_by_lines}
use Rattle.file_order.specs.declared.chunks.Waiting.{Waiting}
use Rattle.collector.specs.Came.{Came, IsToldByNotes, IsFlawlessSoFar}
use Rattle.collector.specs.Written.{ended_texts, begun, last_in}
use Rattle.collector.specs.Holding.{HoldsNotes}
use Rattle.collector.specs.Whole.{HaveFiles, IsAllWritten}
use Rattle.collector.proofs.Notes.{abouts-end, mark-end}
use Rattle.collector.proofs.FlawlessBooks.{all_front, all_last}

abouts-items : (xs : List About) → abouts (map Item xs) ≡ xs
abouts-items [] = refl
abouts-items (x ∷ xs) = ap (λ l. x ∷ l) (abouts-items xs)

-- the mark of a file of which all is told
pub mark_told : (choice : Choice) (meaning : Meaning) (file : ℕ) (ns : List Note) (came : Came) (has : HasFile choice meaning file ns) → IsToldByNotes file ns came → came.mark ≡ Some has.mark
mark_told choice meaning file ns came has told =
    told.mark ∙ ap (mark_after None) has.told ∙ mark-end None (map Item (numbered choice file 0 has.records)) file has.mark

-- all that is told of a file is its book
pub book_told : (choice : Choice) (meaning : Meaning) (file : ℕ) (ns : List Note) (came : Came) (has : HasFile choice meaning file ns) → IsToldByNotes file ns came
    → IsBook choice meaning file (record { entries = came.entries; mark = has.mark })
book_told choice meaning file ns came has told = record {
  whole = record {
    records = has.records;
    each = told.entries ∙ ap abouts has.told ∙ abouts-end (map Item (numbered choice file 0 has.records)) file has.mark ∙ abouts-items (numbered choice file 0 has.records);
    found = has.found;
  };
  answered = all_answered came.entries;
}

whole_book : (came : Came) (mark : Mark) → came.mark ≡ Some mark → IsFlawlessSoFar came → IsFlawlessBook (record { entries = came.entries; mark = mark })
whole_book came mark is flawless = record { complete = flawless.complete mark is; answered = flawless.answered }

book_whole : (came : Came) (mark : Mark) → came.mark ≡ Some mark → IsFlawlessBook (record { entries = came.entries; mark = mark }) → IsFlawlessSoFar came
book_whole came mark is flawless = record {
  answered = flawless.answered;
  complete = λ other e. let same : mark ≡ other = cc in sym same ∙ flawless.complete;
}

-- the books of the first files
record AreUpTo (choice : Choice) (meaning : ℕ → Meaning) (form : Form) (came : ℕ → Came) (n : ℕ) : Type 0 where
  books : List BookModel
  count : length books ≡ n
  each : AreBooks choice meaning 0 books
  text : numbered_texts (book_in form) 1 books ≡ ended_texts form came n
  flawless : All IsFlawlessBook books ↔ ((k : ℕ) → k < n → IsFlawlessSoFar (came k))

-- one more of them
pub text_more : (form : Form) (came : ℕ → Came) (n : ℕ) (books : List BookModel) (mark : Mark) → length books ≡ n → (came n).mark ≡ Some mark
    → numbered_texts (book_in form) 1 books ≡ ended_texts form came n
    → numbered_texts (book_in form) 1 (books ++ record { entries = (came n).entries; mark = mark } ∷ []) ≡ ended_texts form came (suc n)
text_more form came n books mark count is was =
    let book : BookModel = record { entries = (came n).entries; mark = mark } in
    let number : 1 + length books ≡ n + 1 = omega (arith, count) in
    texts-append (book_in form) 1 books (book ∷ [])
    ∙ ap (λ l. l ++ numbered_texts (book_in form) (1 + length books) (book ∷ [])) was
    ∙ ap (λ l. ended_texts form came n ++ l) (append-nil (book_in form (1 + length books) book)
    ∙ ap (λ k. book_in form k book) number
    ∙ ap (λ m. begun form n (came n) ++ last_in form (n + 1) m (length (came n).entries)) (sym is))

up_to : (choice : Choice) (meaning : ℕ → Meaning) (form : Form) (ns : List Note) (came : ℕ → Came) (n : ℕ) → ((k : ℕ) → k < n → IsToldByNotes k ns (came k))
    → ((k : ℕ) → k < n → HasFile choice (meaning k) k ns) → AreUpTo choice meaning form came n
up_to choice meaning form ns came zero told have = record {
  books = [];
  count = refl;
  each = tt;
  text = refl;
  flawless = (λ _ k below. absurd (omega (arith, below)), λ _. All-nil IsFlawlessBook);
}
up_to choice meaning form ns came (suc n) told have =
    let was = up_to choice meaning form ns came n (λ k below. told k (omega (arith, below))) (λ k below. have k (omega (arith, below))) in
    let last : n < suc n = omega arith in
    let has = have n last in
    let marked = mark_told choice (meaning n) n ns (came n) has (told n last) in
    let book : BookModel = record { entries = (came n).entries; mark = has.mark } in
    let number : n ≡ 0 + length was.books = omega (arith, was.count) in
    record {
      books = was.books ++ book ∷ [];
      count = omega (arith, was.count, length-append was.books (book ∷ []));
      each = books_more choice meaning 0 was.books book was.each
          (subst (λ k. IsBook choice (meaning k) k book) number (book_told choice (meaning n) n ns (came n) has (told n last)));
      text = text_more form came n was.books has.mark was.count marked was.text;
      flawless = (
        λ all k below. elim (cases_lt k n) [
          | inl lt ↦ was.flawless.0 (all_front IsFlawlessBook was.books book all) k lt
          | inr from ↦
              let same : n ≡ k = omega (arith, from, below) in
              subst (λ j. IsFlawlessSoFar (came j)) same (book_whole (came n) has.mark marked (all_last IsFlawlessBook was.books book all))
        ],
        λ all. All-push IsFlawlessBook was.books book (was.flawless.1 (λ k below. all k (omega (arith, below)))) (whole_book (came n) has.mark marked (all n last)),
      );
    }

-- the current file is past the last one
past_last : (choice held_choice : Choice) (meaning known : ℕ → Meaning) (form : Form) (start now : Option (List ℕ)) (buffer : List ℕ) (current : ℕ) (waiting : List Waiting) (flawless : Bool) (ns : List Note)
    → HaveFiles choice meaning (length waiting) ns → HoldsNotes held_choice known form start now buffer current waiting flawless ns → length waiting ≤ current
past_last choice held_choice meaning known form start now buffer current waiting flawless ns have holds =
    elim (cases_lt current (length waiting)) [
      | inl below ↦
          let has = have current below in
          let some : (holds.came current).mark ≡ Some has.mark = mark_told choice (meaning current) current ns (holds.came current) has (holds.told current below) in
          let unended = holds.unended below in
          absurd (let none : ⊥ = cc in none)
      | inr past ↦ past
    ]

-- what was buffered was put, and with it the text of all books
pub all_written : (choice held_choice : Choice) (meaning known : ℕ → Meaning) (form : Form) (start old new : Option (List ℕ)) (buffer : List ℕ) (current : ℕ) (waiting : List Waiting) (flawless : Bool) (ns : List Note) (status : ℕ)
    → HaveFiles choice meaning (length waiting) ns → HoldsNotes held_choice known form start old buffer current waiting flawless ns → Appends old new buffer → ((status ≡ 0) ↔ (flawless ≡ true))
    → IsAllWritten choice meaning form (length waiting) start new status
all_written choice held_choice meaning known form start old new buffer current waiting flawless ns status have holds put says =
    let books = up_to choice meaning form ns holds.came (length waiting) holds.told have in
    let past = past_last choice held_choice meaning known form start old buffer current waiting flawless ns have holds in
    let way = holds.written.over past in
    let same : current ≡ length waiting = omega (arith, past, holds.written.within) in
    let text : ended_texts form holds.came current ≡ text_in form books.books =
    ap (ended_texts form holds.came) same ∙ sym books.text ∙ text_by_lines form choice meaning books.books books.each in
    record {
      books = books.books;
      of_files = record { count = books.count; each = books.each };
      text = subst (Appends start new) (sym way.split ∙ text) (added_both start old new way.sent buffer way.added put);
      flawless = (λ is. books.flawless.1 (holds.all_flawless.0 (says.0 is)), λ all. says.1 (holds.all_flawless.1 (books.flawless.0 all)));
    }
