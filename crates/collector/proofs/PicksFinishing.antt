-- What is held of all notes of a run are the books of its files; and of some notes, a beginning of them.
use Rattle.std.proofs.Common.{◌≡◌, ℕ, zero, suc, ◌+◌, ◌<◌, ◌≤◌, List, [], ◌∷◌, ◌++◌, map, length, get_or, Option, Some, inl, inr, refl, sym, ap, subst, ◌∙◌, arith, append-nil, length-append}
use Rattle.std.proofs.Math.Logic.{∥∥₁_map}
use Rattle.std.proofs.lemmas.Bool.{cases_lt}
use Rattle.std.proofs.lemmas.Grind.{merely}
use Rattle.std.proofs.lemmas.List.{ext_get_or, get_or_append_left, get_or_push, map-append, length-map}
use Rattle.std.proofs.lemmas.List.Concat.{flat_map-append}
use Rattle.std.specs.Io.KnownBytes.{Appends}
use Rattle.std.specs.List.{flat_map}
use Rattle.planar_code.specs.declared.TheConstants.{HEADER}
use Rattle.streams.specs.FrameLines.{added_both, added_none}
use Rattle.streams.specs.Sink.{AppendsPrefix}
use Rattle.common.specs.declared.parameters.Choice.{Choice}
use Rattle.lanes.specs.Notes.{Note}
use Rattle.lanes.specs.Opening.{Meaning, IsFoundAt}
use Rattle.lanes.specs.Files.{HasFile, AreToldWhole}
use Rattle.reports.specs.declared.answer.Entry.{Entry}
use Rattle.reports.specs.Abouts as reported
use Rattle.collector.specs.Came.{IsToldByNotes, mark_or_memory}
use Rattle.collector.specs.Orders.{IsInOrder}
use Rattle.collector.proofs.Finishing.{book_told, mark_told}
use Rattle.collector.proofs.Ordering.{found_come, order_none}
use Rattle.collector.proofs.ToldEnds.{both}
use Rattle.graph_facts.specs.declared.selection.Selection.{Selection}
use Rattle.collector.specs.declared.find_facts.Flaws.{Flaws}
use Rattle.collector.specs.declared.picking.Picks.{Picks}
use Rattle.collector.specs.FactBooks.{FactEntry, FactBook, IsFactBook, AreFactBooks, AreAllFactBooks, about_of, flaws_of}
use Rattle.collector.specs.Picked.{picked_of_book, picked_text, IsAllPicked, IsPickBegun}
use Rattle.collector.specs.Arrived.{Arrived, none_arrived, book_so_far, books_up_to, record_of, records_of, picked_up_to}
use Rattle.collector.specs.PicksHolding.{PicksHold, IsPartlyPicked, files_of}
use Rattle.collector.proofs.PickedText.{up_to_last}

-- the records alone are about the same
about_records : (entries : List FactEntry) → map reported.about_of (map record_of entries) ≡ map about_of entries
about_records [] = refl
about_records (entry ∷ entries) = ap (λ l. entry.about ∷ l) (about_records entries)

-- ---- books in a row

count_up_to : (came : ℕ → Arrived) (n : ℕ) → length (books_up_to came n) ≡ n
count_up_to came zero = refl
count_up_to came (suc n) = omega (arith, count_up_to came n, length-append (books_up_to came n) (book_so_far (came n) ∷ []))

-- one book more
books_more : (choice : Choice) (meaning : ℕ → Meaning) (first : ℕ) (books : List FactBook) (book : FactBook) → AreFactBooks choice meaning first books
    → IsFactBook choice (meaning (first + length books)) (first + length books) book → AreFactBooks choice meaning first (books ++ book ∷ [])
books_more choice meaning first [] book are is =
    (let e : first + 0 ≡ first = omega arith in subst (λ k. IsFactBook choice (meaning k) k book) e is, tt)
books_more choice meaning first (b ∷ books) book (was, are) is =
    (was, books_more choice meaning (first + 1) books book are (let e : first + length (b ∷ books) ≡ first + 1 + length books = omega arith in subst (λ k. IsFactBook choice (meaning k) k book) e is))

next_book : (choice : Choice) (meaning : ℕ → Meaning) (came : ℕ → Arrived) (n : ℕ) → AreFactBooks choice meaning 0 (books_up_to came n) → IsFactBook choice (meaning n) n (book_so_far (came n))
    → AreFactBooks choice meaning 0 (books_up_to came (suc n))
next_book choice meaning came n are is =
    let number : n ≡ 0 + length (books_up_to came n) = omega (arith, count_up_to came n) in
    books_more choice meaning 0 (books_up_to came n) (book_so_far (came n)) are (subst (λ k. IsFactBook choice (meaning k) k (book_so_far (came n))) number is)

-- their text
pub up_to_books : (s : Selection) (came : ℕ → Arrived) (n : ℕ) → flat_map (picked_of_book s) (books_up_to came n) ≡ picked_up_to s came n
up_to_books s came zero = refl
up_to_books s came (suc n) =
    flat_map-append (picked_of_book s) (books_up_to came n) (book_so_far (came n) ∷ [])
    ∙ ap (λ l. l ++ flat_map (picked_of_book s) (book_so_far (came n) ∷ [])) (up_to_books s came n)
    ∙ ap (λ l. picked_up_to s came n ++ l) (append-nil (picked_of_book s (book_so_far (came n))))

-- their flaws
flaws_at : (came : ℕ → Arrived) (n k : ℕ) (other : Flaws) → k < n → get_or (map flaws_of (books_up_to came n)) k other ≡ flaws_of (book_so_far (came k))
flaws_at came zero k other below = absurd (omega (arith, below))
flaws_at came (suc n) k other below =
    let front = map flaws_of (books_up_to came n) in
    let count : length front ≡ n = length-map (books_up_to came n) flaws_of ∙ count_up_to came n in
    let parts : map flaws_of (books_up_to came (suc n)) ≡ front ++ flaws_of (book_so_far (came n)) ∷ [] = map-append flaws_of (books_up_to came n) (book_so_far (came n) ∷ []) in
    ap (λ l. get_or l k other) parts
    ∙ elim (cases_lt k n) [
      | inl lt ↦ get_or_append_left front (flaws_of (book_so_far (came n)) ∷ []) other k (omega (arith, lt, count)) ∙ flaws_at came n k other lt
      | inr from ↦
          let same : n ≡ k = omega (arith, from, below) in
          get_or_push front (flaws_of (book_so_far (came n))) other k (count ∙ same) ∙ ap (λ j. flaws_of (book_so_far (came j))) same
    ]

pub flaws_up_to : (came : ℕ → Arrived) (n : ℕ) (flaws : List Flaws) → length flaws ≡ n → ((k : ℕ) (other : Flaws) → k < n → get_or flaws k other ≡ flaws_of (book_so_far (came k)))
    → flaws ≡ map flaws_of (books_up_to came n)
flaws_up_to came n flaws count are =
    let other : Flaws = flaws_of (book_so_far none_arrived) in
    ext_get_or other flaws (map flaws_of (books_up_to came n)) (count ∙ sym (count_up_to came n) ∙ sym (length-map (books_up_to came n) flaws_of))
    (λ k below. are k other (omega (arith, below, count)) ∙ sym (flaws_at came n k other (omega (arith, below, count))))

-- ---- all is told

-- all that is told of a file is its book
told_book : (choice : Choice) (meaning : Meaning) (file : ℕ) (ns : List Note) (came : Arrived) → HasFile choice meaning file ns → IsToldByNotes file ns (records_of came)
    → IsFactBook choice meaning file (book_so_far came)
told_book choice meaning file ns came has told =
    let book = book_told choice meaning file ns (records_of came) has told in
    let mark : has.mark ≡ mark_or_memory came.mark = sym (ap mark_or_memory (mark_told choice meaning file ns (records_of came) has told)) in
    record {
      whole = record {
        records = book.whole.records;
        each = sym (about_records came.entries) ∙ book.whole.each;
        found = subst (IsFoundAt meaning book.whole.records) mark book.whole.found;
      };
    }

told_up_to : (choice : Choice) (meaning : ℕ → Meaning) (ns : List Note) (came : ℕ → Arrived) (n : ℕ) → ((k : ℕ) → k < n → IsToldByNotes k ns (records_of (came k)))
    → ((k : ℕ) → k < n → HasFile choice (meaning k) k ns) → AreFactBooks choice meaning 0 (books_up_to came n)
told_up_to choice meaning ns came zero told have = tt
told_up_to choice meaning ns came (suc n) told have =
    next_book choice meaning came n (told_up_to choice meaning ns came n (λ k below. told k (omega (arith, below))) (λ k below. have k (omega (arith, below))))
    (told_book choice (meaning n) n ns (came n) (have n (omega arith)) (told n (omega arith)))

pub told_books : (choice : Choice) (meaning : ℕ → Meaning) (files : ℕ) (ns : List Note) (came : ℕ → Arrived) → ((k : ℕ) → k < files → IsToldByNotes k ns (records_of (came k)))
    → AreToldWhole choice meaning files ns → AreAllFactBooks choice meaning files (books_up_to came files)
told_books choice meaning files ns came told have = record { count = count_up_to came files; each = told_up_to choice meaning ns came files told have }

-- the current file is past the last one
past_last : (choice : Choice) (meaning known : ℕ → Meaning) (start now : Option (List ℕ)) (picks : Picks) (ns : List Note) → AreToldWhole choice meaning (files_of picks) ns
    → PicksHold known start now picks ns → files_of picks ≤ picks.order.current
past_last choice meaning known start now picks ns have holds =
    elim (cases_lt picks.order.current (files_of picks)) [
      | inl below ↦
          let has = have picks.order.current below in
          let some : (holds.arrived picks.order.current).mark ≡ Some has.mark =
          mark_told choice (meaning picks.order.current) picks.order.current ns (records_of (holds.arrived picks.order.current)) has (holds.are.told picks.order.current below) in
          let unended = holds.unended below in
          absurd (let none : ⊥ = cc in none)
      | inr past ↦ past
    ]

-- what was buffered was put, and with it the records of all books
pub all_picked : (choice : Choice) (meaning known : ℕ → Meaning) (start old new : Option (List ℕ)) (picks : Picks) (ns : List Note) → AreToldWhole choice meaning (files_of picks) ns
    → PicksHold known start old picks ns → Appends old new picks.order.buffer → IsAllPicked picks.selection choice meaning (files_of picks) start new picks.flaws.items
all_picked choice meaning known start old new picks ns have holds put =
    let files = files_of picks in
    let way = holds.picked.text in
    let past = past_last choice meaning known start old picks ns have holds in
    let same : picks.order.current ≡ files = omega (arith, past, holds.picked.within) in
    let text : HEADER ++ picked_up_to picks.selection holds.arrived (suc picks.order.current) ≡ picked_text picks.selection (books_up_to holds.arrived files) =
    ap (λ l. HEADER ++ l) (up_to_last picks.selection holds.arrived picks.order.current (holds.picked.none picks.order.current past) ∙ ap (picked_up_to picks.selection holds.arrived) same
    ∙ sym (up_to_books picks.selection holds.arrived files)) in
    record {
      books = books_up_to holds.arrived files;
      of_files = told_books choice meaning files ns holds.arrived holds.are.told have;
      text = subst (Appends start new) (sym way.split ∙ text) (added_both start old new way.sent picks.order.buffer way.added put);
      flaws_are = flaws_up_to holds.arrived files picks.flaws.items holds.are.flaws_count holds.are.flaws_are;
    }

-- ---- some of it is

-- what has arrived of a file in order is a book, which ends `memory` if the file has not ended
closed_book : (choice : Choice) (meaning : Meaning) (file : ℕ) (came : Arrived) → IsInOrder choice meaning file (records_of came) → ∥ IsFactBook choice meaning file (book_so_far came) ∥₁
closed_book choice meaning file came order = ∥∥₁_map (found_come choice meaning file (records_of came) order) (λ found. record {
  whole = record { records = map (λ (entry : Entry). entry.rec) (map record_of came.entries); each = sym (about_records came.entries) ∙ order.each; found = found };
})

closed_up_to : (choice : Choice) (meaning : ℕ → Meaning) (came : ℕ → Arrived) (n : ℕ) → ((k : ℕ) → k < n → IsInOrder choice (meaning k) k (records_of (came k)))
    → ∥ AreFactBooks choice meaning 0 (books_up_to came n) ∥₁
closed_up_to choice meaning came zero order = merely tt
closed_up_to choice meaning came (suc n) order =
    ∥∥₁_map (both (closed_up_to choice meaning came n (λ k below. order k (omega (arith, below)))) (closed_book choice (meaning n) n (came n) (order n (omega arith))))
    (λ known. next_book choice meaning came n known.0 known.1)

pub begun_left_off : (s : Selection) (choice : Choice) (meaning : ℕ → Meaning) (files : ℕ) (start now : Option (List ℕ)) → IsPartlyPicked s choice meaning files start now
    → ∥ IsPickBegun s choice meaning files start now ∥₁
begun_left_off s choice meaning files start now left = ∥∥₁_map (closed_up_to choice meaning left.arrived files left.ordered) (λ each. record {
  books = books_up_to left.arrived files;
  of_files = record { count = count_up_to left.arrived files; each = each };
  text = subst (λ l. AppendsPrefix start now (HEADER ++ l)) (sym (up_to_books s left.arrived files)) left.text;
})

-- where nothing was added
pub begun_none : (s : Selection) (choice : Choice) (meaning : ℕ → Meaning) (files : ℕ) (start : Option (List ℕ)) → ∥ IsPickBegun s choice meaning files start start ∥₁
begun_none s choice meaning files start = begun_left_off s choice meaning files start start (record {
  arrived = λ _. none_arrived;
  ordered = λ k below. order_none choice (meaning k) k;
  text = ([], HEADER ++ picked_up_to s (λ _. none_arrived) files, refl, added_none start);
})
