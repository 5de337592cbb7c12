-- What one note more tells of the files of a run, and what is lacking then.
use Rattle.std.proofs.Common.{◌≡◌, ◌≢◌, ◌+◌, ◌==◌, ◌<◌, ℕ, cond, Bool, true, false, List, [], ◌∷◌, ◌++◌, map, length, get_or, Option, None, Some, is_none, inl, inr, refl, sym, ap, subst, ◌∙◌, arith, zero-add, add-zero, All}
use Rattle.std.proofs.lemmas.Bool.{eq-eqb, ne_eqb, cases_eq}
use Rattle.std.proofs.lemmas.List.{map-append, length-map}
use Rattle.std.proofs.lemmas.List.Sums.{sum_by_push, sum_by-cons}
use Rattle.planar_code.specs.declared.TheConstants.{MAX_RECORDS}
use Rattle.streams.specs.declared.frames.Mark.{Mark}
use Rattle.common.specs.declared.parameters.Choice.{Choice}
use Rattle.lanes.specs.Notes.{Note, Item, End}
use Rattle.lanes.specs.Opening.{Meaning, IsEndAt}
use Rattle.reports.specs.declared.answer.Entry.{Entry}
use Rattle.answers.specs.Spelt.{IsSpelt}
use Rattle.collector.specs.Came.{Came, mark_or_memory}
use Rattle.collector.specs.Came as collected
use Rattle.collector.specs.Orders.{IsKnownAt, IsInOrder}
use Rattle.collector.proofs.Notes.{all_told_item, all_told_end}
use Rattle.collector.proofs.Ordering.{order_none, order_item, order_end, order_but}
use Rattle.graph_facts.specs.declared.selection.Facts.{Facts}
use Rattle.collector.specs.declared.find_facts.Flaws.{Flaws}
use Rattle.collector.specs.FactBooks.{FactEntry, flaws_of, unanswered, first_unanswered}
use Rattle.collector.specs.Arrived.{Arrived, none_arrived, HasEntryMore, HasEndMore, book_so_far, record_of, records_of, flaws_with}
use Rattle.collector.specs.PicksHolding.{AreArrived}

-- what has arrived with one entry more of a file, and with its mark
abbrev pub entry_more : ℕ → FactEntry → (ℕ → Arrived) → ℕ → Arrived
entry_more file entry came k = cond (k == file) (record { entries = (came file).entries ++ entry ∷ []; mark = (came file).mark }) (came k)

pub has_entry_more : (file : ℕ) (entry : FactEntry) (came : ℕ → Arrived) → HasEntryMore file entry came (entry_more file entry came)
has_entry_more file entry came = record {
  here = ap (λ b. cond b (record { entries = (came file).entries ++ entry ∷ []; mark = (came file).mark }) (came file)) (eq-eqb file file refl);
  others = λ other apart. ap (λ b. cond b (record { entries = (came file).entries ++ entry ∷ []; mark = (came file).mark }) (came other)) (ne_eqb other file apart);
}

abbrev pub end_more : ℕ → Mark → (ℕ → Arrived) → ℕ → Arrived
end_more file mark came k = cond (k == file) (record { entries = (came file).entries; mark = Some mark }) (came k)

pub has_end_more : (file : ℕ) (mark : Mark) (came : ℕ → Arrived) → HasEndMore file mark came (end_more file mark came)
has_end_more file mark came = record {
  here = ap (λ b. cond b (record { entries = (came file).entries; mark = Some mark }) (came file)) (eq-eqb file file refl);
  others = λ other apart. ap (λ b. cond b (record { entries = (came file).entries; mark = Some mark }) (came other)) (ne_eqb other file apart);
}

-- ---- the records alone

abbrev pub all_records : (ℕ → Arrived) → ℕ → Came
all_records came k = records_of (came k)

-- these records, and the mark
abbrev came_with : Option Mark → List Entry → Came
came_with mark entries = record { entries = entries; mark = mark }

pub records_more : (file : ℕ) (entry : FactEntry) (came next : ℕ → Arrived) → HasEntryMore file entry came next
    → collected.HasEntryMore file (record_of entry) (all_records came) (all_records next)
records_more file entry came next more = record {
  here = ap records_of more.here ∙ ap (came_with (came file).mark) (map-append record_of (came file).entries (entry ∷ []));
  others = λ other apart. ap records_of (more.others other apart);
}

pub records_ended : (file : ℕ) (mark : Mark) (came next : ℕ → Arrived) → HasEndMore file mark came next
    → collected.HasMarkMore file mark (all_records came) (all_records next)
records_ended file mark came next more = record {
  here = ap records_of more.here;
  others = λ other apart. ap records_of (more.others other apart);
}

-- ---- flaws

unanswered-more : (entries : List FactEntry) (entry : FactEntry) → unanswered (entries ++ entry ∷ []) ≡ unanswered entries + cond (is_none entry.facts) 1 0
unanswered-more entries entry = sum_by_push (λ (e : FactEntry). cond (is_none e.facts) 1 0) entries entry

-- the first of more entries
first_behind : (b : Bool) (n place other was now : ℕ) → now ≡ cond (n == 0) place was → cond b other now ≡ cond ((cond b 1 0 + n) == 0) place (cond b other was)
first_behind true n place other was now is = ap (λ c. cond c place other) (sym (ne_eqb (1 + n) 0 (λ e. absurd (omega (arith, e)))))
first_behind false n place other was now is = is ∙ ap (λ m. cond (m == 0) place was) (sym (zero-add n))

first_lacking : (entries : List FactEntry) (entry : FactEntry) → entry.facts ≡ None
    → first_unanswered (entries ++ entry ∷ []) ≡ cond (unanswered entries == 0) entry.about.ordinal (first_unanswered entries)
first_lacking [] entry is = ap (λ f. cond (is_none f) entry.about.ordinal 0) is
first_lacking (e ∷ entries) entry is =
    first_behind (is_none e.facts) (unanswered entries) entry.about.ordinal e.about.ordinal (first_unanswered entries) (first_unanswered (entries ++ entry ∷ [])) (first_lacking entries entry is)
    ∙ ap (λ m. cond (m == 0) entry.about.ordinal (first_unanswered (e ∷ entries))) (sym (sum_by-cons (λ (x : FactEntry). cond (is_none x.facts) 1 0) e entries))

first_answered : (entries : List FactEntry) (entry : FactEntry) (facts : Facts) → entry.facts ≡ Some facts → first_unanswered (entries ++ entry ∷ []) ≡ first_unanswered entries
first_answered [] entry facts is = ap (λ f. cond (is_none f) entry.about.ordinal 0) is
first_answered (e ∷ entries) entry facts is = ap (λ n. cond (is_none e.facts) e.about.ordinal n) (first_answered entries entry facts is)

-- what is lacking with one entry more
flaws_more : (entries : List FactEntry) (entry : FactEntry) (mark : Mark) (facts : Option Facts) → entry.facts ≡ facts
    → flaws_of (record { entries = entries ++ entry ∷ []; mark = mark }) ≡ flaws_with (flaws_of (record { entries = entries; mark = mark })) entry.about.ordinal facts
flaws_more entries entry mark None is =
    let count : unanswered (entries ++ entry ∷ []) ≡ unanswered entries + 1 = unanswered-more entries entry ∙ ap (λ f. unanswered entries + cond (is_none f) 1 0) is in
    let first = first_lacking entries entry is in
    λ i. record { mark = mark; unanswered = count i; first = first i }
flaws_more entries entry mark (Some facts) is =
    let count : unanswered (entries ++ entry ∷ []) ≡ unanswered entries = unanswered-more entries entry ∙ ap (λ f. unanswered entries + cond (is_none f) 1 0) is ∙ add-zero (unanswered entries) in
    let first = first_answered entries entry facts is in
    λ i. record { mark = mark; unanswered = count i; first = first i }

-- ---- all files

-- what is known of an entry that comes next in its file
pub record ComesNext (choice : Choice) (meaning : Meaning) (file : ℕ) (came : Arrived) (entry : FactEntry) : Type 0 where
  pub file_is : entry.about.file ≡ file
  pub choice_is : entry.about.choice ≡ choice
  pub spelt : IsSpelt entry.about.bytes
  pub placed : IsKnownAt meaning entry.about.ordinal entry.about.bytes
  pub unmarked : came.mark ≡ None
  pub place_is : entry.about.ordinal ≡ length came.entries
  pub few : length came.entries < MAX_RECORDS

-- with it, all that has arrived is in order
pub ordered_item : (choice : Choice) (meaning : ℕ → Meaning) (files file : ℕ) (entry : FactEntry) (came next : ℕ → Arrived) → file < files → ComesNext choice (meaning file) file (came file) entry → HasEntryMore file entry came next
    → ((k : ℕ) → k < files → IsInOrder choice (meaning k) k (records_of (came k))) → (k : ℕ) → k < files → IsInOrder choice (meaning k) k (records_of (next k))
ordered_item choice meaning files file entry came next below comes more were =
    let records = records_more file entry came next more in
    let count : length (map record_of (came file).entries) ≡ length (came file).entries = length-map (came file).entries record_of in
    let here = order_item choice (meaning file) file (records_of (came file)) (record_of entry) comes.unmarked comes.file_is (comes.place_is ∙ sym count) comes.choice_is comes.spelt comes.placed
    (omega (arith, comes.few, count)) (were file below) in
    order_but choice meaning files file (all_records came) (all_records next) records.others (subst (IsInOrder choice (meaning file) file) (sym records.here) here) were

pub ordered_end : (choice : Choice) (meaning : ℕ → Meaning) (files file : ℕ) (mark : Mark) (came next : ℕ → Arrived) → file < files → ∥ IsEndAt (meaning file) (length (came file).entries) mark ∥₁ → HasEndMore file mark came next
    → ((k : ℕ) → k < files → IsInOrder choice (meaning k) k (records_of (came k))) → (k : ℕ) → k < files → IsInOrder choice (meaning k) k (records_of (next k))
ordered_end choice meaning files file mark came next below ends more were =
    let records = records_ended file mark came next more in
    let count : length (came file).entries ≡ length (map record_of (came file).entries) = sym (length-map (came file).entries record_of) in
    let here = order_end choice (meaning file) file (records_of (came file)) mark (subst (λ n. ∥ IsEndAt (meaning file) n mark ∥₁) count ends) (were file below) in
    order_but choice meaning files file (all_records came) (all_records next) records.others (subst (IsInOrder choice (meaning file) file) (sym records.here) here) were

-- where the flaws of all but one file are as before
pub flaws_but : (files file : ℕ) (before after : List Flaws) (came next : ℕ → Arrived) → ((k : ℕ) (other : Flaws) → k ≢ file → get_or after k other ≡ get_or before k other)
    → ((other : ℕ) → other ≢ file → next other ≡ came other) → ((other : Flaws) → get_or after file other ≡ flaws_of (book_so_far (next file)))
    → ((k : ℕ) (other : Flaws) → k < files → get_or before k other ≡ flaws_of (book_so_far (came k))) → (k : ℕ) (other : Flaws) → k < files → get_or after k other ≡ flaws_of (book_so_far (next k))
flaws_but files file before after came next apart others here were k other below =
    elim (cases_eq k file) [
      | inl same ↦ subst (λ j. get_or after j other ≡ flaws_of (book_so_far (next j))) (sym same) (here other)
      | inr away ↦ apart k other away ∙ were k other below ∙ ap (λ (a : Arrived). flaws_of (book_so_far a)) (sym (others k away))
    ]

-- the flaws of the file itself
pub flaws_item : (before after : List Flaws) (file : ℕ) (entry : FactEntry) (came next : ℕ → Arrived) (other : Flaws)
    → get_or after file other ≡ flaws_with (get_or before file other) entry.about.ordinal entry.facts → get_or before file other ≡ flaws_of (book_so_far (came file))
    → HasEntryMore file entry came next → get_or after file other ≡ flaws_of (book_so_far (next file))
flaws_item before after file entry came next other here was more =
    here ∙ ap (λ f. flaws_with f entry.about.ordinal entry.facts) was
    ∙ sym (flaws_more (came file).entries entry (mark_or_memory (came file).mark) entry.facts refl) ∙ ap (λ (a : Arrived). flaws_of (book_so_far a)) (sym more.here)

pub flaws_end : (before after : List Flaws) (file : ℕ) (mark : Mark) (came next : ℕ → Arrived) (other : Flaws)
    → get_or after file other ≡ record (get_or before file other) { mark = mark } → get_or before file other ≡ flaws_of (book_so_far (came file))
    → HasEndMore file mark came next → get_or after file other ≡ flaws_of (book_so_far (next file))
flaws_end before after file mark came next other here was more =
    here ∙ ap (λ (f : Flaws). record f { mark = mark }) was ∙ ap (λ (a : Arrived). flaws_of (book_so_far a)) (sym more.here)

pub arrived_item : (choice : Choice) (meaning : ℕ → Meaning) (files : ℕ) (before after : List Flaws) (ns : List Note) (file : ℕ) (entry : FactEntry) (came next : ℕ → Arrived)
    → file < files → length after ≡ length before
    → ((other : Flaws) → get_or after file other ≡ flaws_with (get_or before file other) entry.about.ordinal entry.facts)
    → ((k : ℕ) (other : Flaws) → k ≢ file → get_or after k other ≡ get_or before k other)
    → ComesNext choice (meaning file) file (came file) entry → HasEntryMore file entry came next
    → AreArrived choice meaning files before ns came → AreArrived choice meaning files after (ns ++ Item entry.about ∷ []) next
arrived_item choice meaning files before after ns file entry came next below count here apart comes more was = record {
  told = all_told_item files ns file (record_of entry) (all_records came) (all_records next) comes.file_is (records_more file entry came next more) was.told;
  ordered = ordered_item choice meaning files file entry came next below comes more was.ordered;
  flaws_count = count ∙ was.flaws_count;
  flaws_are = flaws_but files file before after came next apart more.others
      (λ other. flaws_item before after file entry came next other (here other) (was.flaws_are file other below) more)
      was.flaws_are;
}

pub arrived_end : (choice : Choice) (meaning : ℕ → Meaning) (files : ℕ) (before after : List Flaws) (ns : List Note) (file : ℕ) (mark : Mark) (came next : ℕ → Arrived)
    → file < files → length after ≡ length before
    → ((other : Flaws) → get_or after file other ≡ record (get_or before file other) { mark = mark })
    → ((k : ℕ) (other : Flaws) → k ≢ file → get_or after k other ≡ get_or before k other)
    → ∥ IsEndAt (meaning file) (length (came file).entries) mark ∥₁ → HasEndMore file mark came next
    → AreArrived choice meaning files before ns came → AreArrived choice meaning files after (ns ++ End file mark ∷ []) next
arrived_end choice meaning files before after ns file mark came next below count here apart ends more was = record {
  told = all_told_end files ns file mark (all_records came) (all_records next) (records_ended file mark came next more) was.told;
  ordered = ordered_end choice meaning files file mark came next below ends more was.ordered;
  flaws_count = count ∙ was.flaws_count;
  flaws_are = flaws_but files file before after came next apart more.others
      (λ other. flaws_end before after file mark came next other (here other) (was.flaws_are file other below) more)
      was.flaws_are;
}

-- nothing has arrived
pub arrived_none : (choice : Choice) (meaning : ℕ → Meaning) (files : ℕ) (flaws : List Flaws) → length flaws ≡ files → All (λ each. each ≡ flaws_of (book_so_far none_arrived)) flaws
    → AreArrived choice meaning files flaws [] (λ _. none_arrived)
arrived_none choice meaning files flaws count all = record {
  told = λ k below. record { entries = refl; mark = refl };
  ordered = λ k below. order_none choice (meaning k) k;
  flaws_count = count;
  flaws_are = λ k other below. all k other (omega (arith, below, count));
}
