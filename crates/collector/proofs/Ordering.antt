-- What has come of files in order is a beginning of their books.
use Rattle.std.proofs.Common.{◌≡◌, ◌≢◌, ℕ, zero, suc, ◌+◌, ◌<◌, ◌≤◌, List, [], ◌∷◌, ◌++◌, length, map, Option, None, Some, true, All, inl, inr, refl, sym, ap, subst, ◌∙◌, arith, append_assoc, length-append}
use Rattle.std.proofs.Math.Logic.{∥∥₁_map}
use Rattle.std.proofs.lemmas.Bool.{cases_eq}
use Rattle.std.proofs.lemmas.Grind.{merely}
use Rattle.std.proofs.lemmas.List.{map-append, length-map}
use Rattle.std.proofs.lemmas.List.Elements.{All-push, All-nil, All-cons, All-head, All-tail}
use Rattle.planar_code.specs.declared.TheConstants.{MAX_RECORDS}
use Rattle.planar_code.specs.Stream.{IsRecord}
use Rattle.streams.specs.declared.frames.Mark.{Mark}
use Rattle.streams.specs.Sink.{AppendsPrefix}
use Rattle.streams.specs.FrameLines.{added_none}
use Rattle.common.specs.declared.parameters.Choice.{Choice}
use Rattle.lanes.specs.Notes.{Note, numbered}
use Rattle.streams.specs.Placing.{EachAt}
use Rattle.lanes.specs.Opening.{Meaning, Silent, Unopened, Opened, IsFoundAt, IsEndAt}
use Rattle.reports.specs.declared.answer.Entry.{Entry}
use Rattle.reports.specs.Abouts.{about_of}
use Rattle.reports.specs.Books.{BookModel, IsBook, AreBooks}
use Rattle.reports.proofs.KeptBooks.{all_answered, books_more}
use Rattle.streams.specs.declared.frames.Form.{Form}
use Rattle.reports.specs.Report.{numbered_texts}
use Rattle.reports.specs.Forms.{text_in}
use Rattle.collector.specs.FormLines.{preamble_in, lines_in, book_in}
use Rattle.answers.specs.Spelt.{IsSpelt}
use Rattle.collector.proofs.BookTexts.{text_by_lines}
use Rattle.collector.specs.Came.{Came, HasMark, nothing}
use Rattle.collector.specs.Orders.{IsKnownAt, IsInOrder}
use Rattle.collector.specs.Written.{begun, ended_texts}
use Rattle.collector.specs.Holding.{ArePartialNotes}
use Rattle.collector.specs.Whole.{AreFirst, IsBegun}
use Rattle.collector.proofs.Endings.{record_spelt, found_unknown}
use Rattle.collector.proofs.Finishing.{text_more}
use Rattle.collector.proofs.ToldEnds.{both, each_push, found_closed, mark_or_memory}

abbrev rec_of : Entry → List ℕ
rec_of entry = entry.rec

abbrev IsOfRecord : Entry → Type 0
IsOfRecord entry = IsSpelt entry.rec

-- nothing has come
pub order_none : (choice : Choice) (meaning : Meaning) (file : ℕ) → IsInOrder choice meaning file nothing
order_none choice meaning file = record {
  each = refl;
  records = All-nil IsOfRecord;
  few = omega arith;
  placed = tt;
  ends = λ mark e. absurd (let none : ⊥ = cc in none);
}

-- one record more
numbered-push : (choice : Choice) (file first : ℕ) (records : List (List ℕ)) (bytes : List ℕ)
    → numbered choice file first (records ++ bytes ∷ []) ≡ numbered choice file first records ++ record { file = file; ordinal = first + length records; bytes = bytes; choice = choice } ∷ []
numbered-push choice file first [] bytes = ap (λ n. record { file = file; ordinal = n; bytes = bytes; choice = choice } ∷ []) (omega arith)
numbered-push choice file first (r ∷ records) bytes =
    let same : first + 1 + length records ≡ first + length (r ∷ records) = omega arith in
    ap (λ l. record { file = file; ordinal = first; bytes = r; choice = choice } ∷ l)
    (numbered-push choice file (first + 1) records bytes
    ∙ ap (λ n. numbered choice file (first + 1) records ++ record { file = file; ordinal = n; bytes = bytes; choice = choice } ∷ []) same)

-- an entry at the next place of its file
pub order_item : (choice : Choice) (meaning : Meaning) (file : ℕ) (came : Came) (entry : Entry) → came.mark ≡ None → entry.file ≡ file → entry.ordinal ≡ length came.entries → entry.choice ≡ choice
    → IsSpelt entry.rec → IsKnownAt meaning entry.ordinal entry.rec → length came.entries < MAX_RECORDS → IsInOrder choice meaning file came
    → IsInOrder choice meaning file (record { entries = came.entries ++ entry ∷ []; mark = came.mark })
order_item choice meaning file came entry unmarked file_is ordinal_is choice_is spelt placed room was =
    let place : entry.ordinal ≡ 0 + length (map rec_of came.entries) = omega (arith, ordinal_is, length-map came.entries rec_of) in
    let about : about_of entry ≡ record { file = file; ordinal = 0 + length (map rec_of came.entries); bytes = entry.rec; choice = choice } =
    ap (λ f. record { file = f; ordinal = entry.ordinal; bytes = entry.rec; choice = entry.choice }) file_is
    ∙ ap (λ n. record { file = file; ordinal = n; bytes = entry.rec; choice = entry.choice }) place
    ∙ ap (λ c. record { file = file; ordinal = 0 + length (map rec_of came.entries); bytes = entry.rec; choice = c }) choice_is in
    record {
      each = map-append about_of came.entries (entry ∷ [])
          ∙ ap (λ l. l ++ about_of entry ∷ []) was.each
          ∙ ap (λ a. numbered choice file 0 (map rec_of came.entries) ++ a ∷ []) about
          ∙ sym (numbered-push choice file 0 (map rec_of came.entries) entry.rec)
          ∙ ap (numbered choice file 0) (sym (map-append rec_of came.entries (entry ∷ [])));
      records = All-push IsOfRecord came.entries entry was.records spelt;
      few = omega (arith, room, length-append came.entries (entry ∷ []));
      placed = subst (EachAt (IsKnownAt meaning) 0) (sym (map-append rec_of came.entries (entry ∷ [])))
          (each_push (IsKnownAt meaning) 0 (map rec_of came.entries) entry.rec was.placed (subst (λ n. IsKnownAt meaning n entry.rec) place placed));
      ends = λ mark e. absurd (let none : ⊥ = cc in none);
    }

-- a mark
pub order_end : (choice : Choice) (meaning : Meaning) (file : ℕ) (came : Came) (mark : Mark) → ∥ IsEndAt meaning (length came.entries) mark ∥₁
    → IsInOrder choice meaning file came → IsInOrder choice meaning file (record { entries = came.entries; mark = Some mark })
order_end choice meaning file came mark known was = record {
  each = was.each;
  records = was.records;
  few = was.few;
  placed = was.placed;
  ends = λ other e. let same : mark ≡ other = cc in subst (λ m. ∥ IsEndAt meaning (length came.entries) m ∥₁) same known;
}

-- where all but one file are as before
pub order_but : (choice : Choice) (meaning : ℕ → Meaning) (files file : ℕ) (came next : ℕ → Came) → ((other : ℕ) → other ≢ file → next other ≡ came other)
    → IsInOrder choice (meaning file) file (next file) → ((k : ℕ) → k < files → IsInOrder choice (meaning k) k (came k)) → (k : ℕ) → k < files → IsInOrder choice (meaning k) k (next k)
order_but choice meaning files file came next others here were k below =
    elim (cases_eq k file) [
      | inl same ↦ subst (λ j. IsInOrder choice (meaning j) j (next j)) (sym same) here
      | inr apart ↦ subst (IsInOrder choice (meaning k) k) (sym (others k apart)) (were k below)
    ]

all_records : (entries : List Entry) → All IsOfRecord entries → All IsRecord (map rec_of entries)
all_records [] all = All-nil IsRecord
all_records (entry ∷ entries) all =
    All-cons IsRecord entry.rec (map rec_of entries) (record_spelt entry.rec (All-head IsOfRecord entry entries all)) (all_records entries (All-tail IsOfRecord entry entries all))

-- its records and this mark are the file's
pub found_come : (choice : Choice) (meaning : Meaning) (file : ℕ) (came : Came) → IsInOrder choice meaning file came → ∥ IsFoundAt meaning (map rec_of came.entries) (mark_or_memory came.mark) ∥₁
found_come choice Silent file came order =
    let count = length-map came.entries rec_of in
    found_unknown (map rec_of came.entries) (length came.entries) came.mark (all_records came.entries order.records) (omega (arith, order.few, count)) (sym count) order.ends
found_come choice Unopened file came order =
    found_closed [] true (map rec_of came.entries) (length came.entries) came.mark (sym (length-map came.entries rec_of)) order.placed
    (λ mark e. ∥∥₁_map (order.ends mark e) (λ known. (known.records, known.counted, known.found)))
found_come choice (Opened told fails) file came order =
    found_closed told fails (map rec_of came.entries) (length came.entries) came.mark (sym (length-map came.entries rec_of)) order.placed
    (λ mark e. ∥∥₁_map (order.ends mark e) (λ known. (known.records, known.counted, known.found)))

book_closed : (choice : Choice) (meaning : Meaning) (file : ℕ) (came : Came) → IsInOrder choice meaning file came
    → ∥ IsBook choice meaning file (record { entries = came.entries; mark = mark_or_memory came.mark }) ∥₁
book_closed choice meaning file came order = ∥∥₁_map (found_come choice meaning file came order) (λ found. record {
  whole = record { records = map rec_of came.entries; each = order.each; found = found };
  answered = all_answered came.entries;
})

-- the book of a file that has ended
book_ended : (choice : Choice) (meaning : Meaning) (file : ℕ) (came : Came) (mark : Mark) → came.mark ≡ Some mark → IsInOrder choice meaning file came
    → ∥ IsBook choice meaning file (record { entries = came.entries; mark = mark }) ∥₁
book_ended choice meaning file came mark is order =
    subst (λ m. ∥ IsBook choice meaning file (record { entries = came.entries; mark = m }) ∥₁) (ap mark_or_memory is) (book_closed choice meaning file came order)

-- what has come of one, ended or not, are its first entries
first_come : (choice : Choice) (meaning : Meaning) (file : ℕ) (came : Came) → IsInOrder choice meaning file came → ∥ AreFirst choice meaning file came.entries ∥₁
first_come choice meaning file came order =
    book_closed choice meaning file (record { entries = came.entries; mark = None })
    (record { each = order.each; records = order.records; few = order.few; placed = order.placed; ends = λ mark e. absurd (let none : ⊥ = cc in none) })

-- the books of the first files, which have ended
record AreEnded (choice : Choice) (meaning : ℕ → Meaning) (form : Form) (came : ℕ → Came) (n : ℕ) : Type 0 where
  books : List BookModel
  count : length books ≡ n
  each : AreBooks choice meaning 0 books
  text : numbered_texts (book_in form) 1 books ≡ ended_texts form came n

ended_one : (choice : Choice) (meaning : ℕ → Meaning) (form : Form) (came : ℕ → Came) (n : ℕ) (mark : Mark) → (came n).mark ≡ Some mark → AreEnded choice meaning form came n
    → IsBook choice (meaning n) n (record { entries = (came n).entries; mark = mark }) → AreEnded choice meaning form came (suc n)
ended_one choice meaning form came n mark marked was is =
    let book : BookModel = record { entries = (came n).entries; mark = mark } in
    let number : n ≡ 0 + length was.books = omega (arith, was.count) in
    record {
      books = was.books ++ book ∷ [];
      count = omega (arith, was.count, length-append was.books (book ∷ []));
      each = books_more choice meaning 0 was.books book was.each (subst (λ k. IsBook choice (meaning k) k book) number is);
      text = text_more form came n was.books mark was.count marked was.text;
    }

end_up_to : (choice : Choice) (meaning : ℕ → Meaning) (form : Form) (came : ℕ → Came) (n : ℕ) → ((k : ℕ) → k < n → HasMark (came k)) → ((k : ℕ) → k < n → IsInOrder choice (meaning k) k (came k))
    → ∥ AreEnded choice meaning form came n ∥₁
end_up_to choice meaning form came zero marked order = merely (record { books = []; count = refl; each = tt; text = refl })
end_up_to choice meaning form came (suc n) marked order =
    let here = marked n (omega arith) in
    ∥∥₁_map (both (end_up_to choice meaning form came n (λ k below. marked k (omega (arith, below))) (λ k below. order k (omega (arith, below))))
    (book_ended choice (meaning n) n (came n) here.0 here.1 (order n (omega arith))))
    (λ known. ended_one choice meaning form came n here.0 here.1 known.0 known.1)

-- a text that was left off ends with the books of the files that have ended, or with the first entries of the next file
begun_ended : (choice : Choice) (meaning : ℕ → Meaning) (form : Form) (files : ℕ) (start now : Option (List ℕ)) (came : ℕ → Came) (current : ℕ) → current ≤ files
    → AppendsPrefix start now (ended_texts form came current) → AreEnded choice meaning form came current → IsBegun choice meaning form files start now
begun_ended choice meaning form files start now came current within added up_to =
    let text : ended_texts form came current ≡ text_in form up_to.books = sym up_to.text ∙ text_by_lines form choice meaning up_to.books up_to.each in
    record { books = up_to.books; of_files = up_to.each; few = omega (arith, within, up_to.count); text = inl (subst (AppendsPrefix start now) text added) }

begun_next : (choice : Choice) (meaning : ℕ → Meaning) (form : Form) (files : ℕ) (start now : Option (List ℕ)) (came : ℕ → Came) (current : ℕ) → current < files
    → AppendsPrefix start now (ended_texts form came current ++ begun form current (came current)) → AreFirst choice (meaning current) current (came current).entries
    → AreEnded choice meaning form came current → IsBegun choice meaning form files start now
begun_next choice meaning form files start now came current below added first up_to =
    let same : current ≡ length up_to.books = sym up_to.count in
    let text : ended_texts form came current ≡ text_in form up_to.books = sym up_to.text ∙ text_by_lines form choice meaning up_to.books up_to.each in
    let entries = (came current).entries in
    let ended : AppendsPrefix start now (text_in form up_to.books ++ preamble_in form (current + 1) ++ lines_in form entries) =
    subst (AppendsPrefix start now) (sym (append_assoc (text_in form up_to.books) (preamble_in form (current + 1)) (lines_in form entries)))
    (subst (λ l. AppendsPrefix start now (l ++ begun form current (came current))) text added) in
    record {
      books = up_to.books;
      of_files = up_to.each;
      few = omega (arith, below, up_to.count);
      text = inr (
        omega (arith, below, up_to.count),
        (
          entries,
          subst (λ k. AreFirst choice (meaning k) k entries) same first,
          subst (λ k. AppendsPrefix start now (text_in form up_to.books ++ preamble_in form (k + 1) ++ lines_in form entries)) same ended,
        ),
      );
    }

pub begun_left_off : (choice : Choice) (meaning : ℕ → Meaning) (form : Form) (files : ℕ) (start now : Option (List ℕ)) (ns : List Note) → ArePartialNotes choice meaning form files start now ns
    → ∥ IsBegun choice meaning form files start now ∥₁
begun_left_off choice meaning form files start now ns left =
    let off = left.text in
    let up_to = end_up_to choice meaning form left.came off.current off.marked (λ k below. left.ordered k (omega (arith, below, off.within))) in
    elim off.text [
      | inl added ↦ ∥∥₁_map up_to (begun_ended choice meaning form files start now left.came off.current off.within added)
      | inr next ↦
          ∥∥₁_map (both up_to (first_come choice (meaning off.current) off.current (left.came off.current) (left.ordered off.current next.0)))
          (λ known. begun_next choice meaning form files start now left.came off.current next.0 next.1 known.1 known.0)
    ]

-- where nothing was added, no file has ended
pub begun_none : (choice : Choice) (meaning : ℕ → Meaning) (form : Form) (files : ℕ) (start : Option (List ℕ)) → ∥ IsBegun choice meaning form files start start ∥₁
begun_none choice meaning form files start =
    merely (record { books = []; of_files = tt; few = omega arith; text = inl ([], text_in form [], refl, added_none start) })
