-- The table of what has arrived, after one message more.
use Rattle.std.proofs.Common.{◌≡◌, ◌≢◌, ◌<◌, ℕ, zero, suc, List, [], ◌∷◌, ◌++◌, length, get_or, cond, Bool, true, false, None, Some, All, inl, inr, refl, sym, ap, subst, ◌∙◌, arith, append_assoc, append-nil}
use Rattle.std.specs.Prelude.{filter, option_to_list}
use Rattle.std.specs.List.{flat_map}
use Rattle.std.specs.List.Sorted.{IsPermutation}
use Rattle.std.proofs.lemmas.Bool.{cases_eq}
use Rattle.std.proofs.lemmas.List.Concat.{flat_map-append}
use Rattle.std.proofs.lemmas.List.Sorted.{IsPermutation-refl, IsPermutation-trans, IsPermutation-append_left, IsPermutation-append_right, IsPermutation-append_comm}
use Rattle.streams.specs.declared.frames.Mark.{Mark}
use Rattle.common.specs.declared.parameters.Choice.{Choice}
use Rattle.lanes.specs.Notes.{Note, Item, End}
use Rattle.lanes.specs.Opening.{Meaning, IsPlacedAt, IsEndAt}
use Rattle.lanes.specs.Accepting.{AcceptsFiles}
use Rattle.lanes.specs.Faults.{IsOfLanes, HoldsOnFault}
use Rattle.lanes.specs.Files.{AreToldWhole}
use Rattle.lanes.specs.declared.gathering.RunFault.{RunFault}
use Rattle.collector.proofs.Notes.{all_told_item, all_told_end}
use Rattle.graph_facts.specs.declared.table.Columns.{Columns}
use Rattle.graph_facts.specs.declared.selection.Selection.{Selection}
use Rattle.graph_facts.specs.declared.selection.Facts.{Facts}
use Rattle.collector.specs.declared.find_facts.Flaws.{Flaws}
use Rattle.collector.specs.FactBooks.{FactEntry, flaws_of}
use Rattle.graph_facts.specs.Conditions.{chooses}
use Rattle.collector.specs.Picked.{chosen_of, chosen_of_book, chosen_in}
use Rattle.collector.specs.Counted.{IsAllCounted}
use Rattle.collector.specs.Arrived.{Arrived, none_arrived, HasEntryMore, HasEndMore, book_so_far, books_up_to, record_of, flaws_with}
use Rattle.collector.specs.CountsHeld.{CountsHold, chosen_up_to}
use Rattle.graph_facts.specs.Tables.{IsTable, TableModel}
use Rattle.collector.proofs.Arriving.{all_records, entry_more, has_entry_more, end_more, has_end_more, records_more, records_ended, flaws_but, flaws_item, flaws_end}
use Rattle.collector.proofs.PicksFinishing.{flaws_up_to, told_books}
use Rattle.graph_facts.proofs.OneTable.{order_is_free}

-- lanes take the files whose meaning they know
pub accepts_known : (known meaning : ℕ → Meaning) → known ≡ meaning
    → AcceptsFiles (λ file place bytes. IsPlacedAt (known file) place bytes) (λ file count mark. IsEndAt (known file) count mark) meaning
accepts_known known meaning same = record {
  records = λ file place bytes placed. subst (λ m. IsPlacedAt (m file) place bytes) (sym same) placed;
  marks = λ file count mark is. subst (λ m. IsEndAt (m file) count mark) (sym same) is;
}

-- where it holds of a consumer that gave up, and of what one holds if the lanes failed
pub ended_with : {F Q : Type 0} (gave_up : RunFault F → Type 0) (holds : List Note → Type 0) (fault : RunFault F) → (gave_up fault → Q) → (IsOfLanes fault → (ns : List Note) → holds ns → Q)
    → HoldsOnFault gave_up holds fault → Q
ended_with gave_up holds fault given held (inl gave) = given gave
ended_with gave_up holds fault given held (inr (of, told)) = held of told.0 told.1

-- ---- what is chosen

chosen_more : (s : Selection) (entries : List FactEntry) (entry : FactEntry) → flat_map (chosen_of s) (entries ++ entry ∷ []) ≡ flat_map (chosen_of s) entries ++ chosen_of s entry
chosen_more s entries entry = flat_map-append (chosen_of s) entries (entry ∷ []) ∙ ap (λ l. flat_map (chosen_of s) entries ++ l) (append-nil (chosen_of s entry))

-- of the first files, where nothing more has arrived of them
chosen_same : (s : Selection) (came next : ℕ → Arrived) (n : ℕ) → ((k : ℕ) → k < n → next k ≡ came k) → chosen_up_to s came n ≡ chosen_up_to s next n
chosen_same s came next zero same = refl
chosen_same s came next (suc n) same =
    ap (λ l. l ++ chosen_of_book s (book_so_far (came n))) (chosen_same s came next n (λ k below. same k (omega (arith, below))))
    ∙ ap (λ (a : Arrived). chosen_up_to s next n ++ chosen_of_book s (book_so_far a)) (sym (same n (omega arith)))

-- or no entry has
chosen_entries : (s : Selection) (came next : ℕ → Arrived) (n : ℕ) → ((k : ℕ) → (came k).entries ≡ (next k).entries) → chosen_up_to s came n ≡ chosen_up_to s next n
chosen_entries s came next zero same = refl
chosen_entries s came next (suc n) same =
    ap (λ l. l ++ chosen_of_book s (book_so_far (came n))) (chosen_entries s came next n same)
    ∙ ap (λ (es : List FactEntry). chosen_up_to s next n ++ flat_map (chosen_of s) es) (same n)

-- one entry more is the last one of its file
chosen_last : (s : Selection) (file : ℕ) (entry : FactEntry) (came next : ℕ → Arrived) → HasEntryMore file entry came next
    → chosen_up_to s came (suc file) ++ chosen_of s entry ≡ chosen_up_to s next (suc file)
chosen_last s file entry came next more =
    let C = chosen_up_to s came file in
    append_assoc C (chosen_of_book s (book_so_far (came file))) (chosen_of s entry)
    ∙ ap (λ l. C ++ l) (sym (chosen_more s (came file).entries entry) ∙ ap (λ (a : Arrived). flat_map (chosen_of s) a.entries) (sym more.here))
    ∙ ap (λ l. l ++ chosen_of_book s (book_so_far (next file))) (chosen_same s came next file (λ k lt. more.others k (λ e. absurd (omega (arith, lt, e)))))

-- so what is chosen with it has another order
chosen_moved : (s : Selection) (file : ℕ) (entry : FactEntry) (came next : ℕ → Arrived) → HasEntryMore file entry came next → (n : ℕ) → file < n
    → IsPermutation (chosen_up_to s came n ++ chosen_of s entry) (chosen_up_to s next n)
chosen_moved s file entry came next more zero below = absurd (omega (arith, below))
chosen_moved s file entry came next more (suc n) below =
    elim (cases_eq n file) [
      | inl same ↦
          subst (λ k. IsPermutation (chosen_up_to s came (suc k) ++ chosen_of s entry) (chosen_up_to s next (suc k))) (sym same)
          (subst (IsPermutation (chosen_up_to s came (suc file) ++ chosen_of s entry)) (chosen_last s file entry came next more)
          (IsPermutation-refl (chosen_up_to s came (suc file) ++ chosen_of s entry)))
      | inr apart ↦
          let C = chosen_up_to s came n in
          let X = chosen_of s entry in
          let D = chosen_of_book s (book_so_far (came n)) in
          let before : file < n = omega (arith, apart, below) in
          let rest = chosen_moved s file entry came next more n before in
          let behind : IsPermutation ((C ++ D) ++ X) ((C ++ X) ++ D) =
          subst (λ l. IsPermutation l ((C ++ X) ++ D)) (sym (append_assoc C D X))
          (subst (IsPermutation (C ++ (D ++ X))) (sym (append_assoc C X D)) (IsPermutation-append_right C (D ++ X) (X ++ D) (IsPermutation-append_comm D X))) in
          let moved : IsPermutation ((C ++ D) ++ X) (chosen_up_to s next n ++ D) =
          IsPermutation-trans ((C ++ D) ++ X) ((C ++ X) ++ D) (chosen_up_to s next n ++ D) behind (IsPermutation-append_left D (C ++ X) (chosen_up_to s next n) rest) in
          subst (λ (a : Arrived). IsPermutation ((C ++ D) ++ X) (chosen_up_to s next n ++ chosen_of_book s (book_so_far a))) (sym (more.others n apart)) moved
    ]

-- in books in a row
chosen_books : (s : Selection) (came : ℕ → Arrived) (n : ℕ) → chosen_in s (books_up_to came n) ≡ chosen_up_to s came n
chosen_books s came zero = refl
chosen_books s came (suc n) =
    flat_map-append (chosen_of_book s) (books_up_to came n) (book_so_far (came n) ∷ [])
    ∙ ap (λ l. l ++ flat_map (chosen_of_book s) (book_so_far (came n) ∷ [])) (chosen_books s came n)
    ∙ ap (λ l. chosen_up_to s came n ++ l) (append-nil (chosen_of_book s (book_so_far (came n))))

none_chosen : (s : Selection) (n : ℕ) → chosen_up_to s (λ _. none_arrived) n ≡ []
none_chosen s zero = refl
none_chosen s (suc n) = ap (λ l. l ++ []) (none_chosen s n)

-- ---- the table

pub counts_none : (s : Selection) (table : TableModel) (flaws : List Flaws) → All (λ each. each ≡ flaws_of (book_so_far none_arrived)) flaws → IsTable [] table → CountsHold s table flaws []
counts_none s table flaws all is = record {
  arrived = λ _. none_arrived;
  told = λ k below. record { entries = refl; mark = refl };
  flaws_are = λ k other below. all k other below;
  is_table = subst (λ graphs. IsTable graphs table) (sym (none_chosen s (length flaws))) is;
}

pub counts_item : (s : Selection) (table now : TableModel) (before after : List Flaws) (ns : List Note) (file : ℕ) (entry : FactEntry)
    → file < length before → length after ≡ length before
    → ((other : Flaws) → get_or after file other ≡ flaws_with (get_or before file other) entry.about.ordinal entry.facts)
    → ((k : ℕ) (other : Flaws) → k ≢ file → get_or after k other ≡ get_or before k other)
    → entry.about.file ≡ file
    → ((graphs : List Facts) → IsTable graphs table → IsTable (graphs ++ chosen_of s entry) now)
    → CountsHold s table before ns → CountsHold s now after (ns ++ Item entry.about ∷ [])
counts_item s table now before after ns file entry below count here apart file_is counted was =
    let next = entry_more file entry was.arrived in
    let more = has_entry_more file entry was.arrived in
    let files = length before in
    let graphs : IsTable (chosen_up_to s next files) now =
    order_is_free (chosen_up_to s was.arrived files ++ chosen_of s entry) (chosen_up_to s next files) now (chosen_moved s file entry was.arrived next more files below)
    (counted (chosen_up_to s was.arrived files) was.is_table) in
    record {
      arrived = next;
      told = λ k lt. all_told_item files ns file (record_of entry) (all_records was.arrived) (all_records next) file_is (records_more file entry was.arrived next more) was.told k (omega (arith, lt, count));
      flaws_are = λ k other lt. flaws_but files file before after was.arrived next apart more.others
          (λ o. flaws_item before after file entry was.arrived next o (here o) (was.flaws_are file o below) more) was.flaws_are k other (omega (arith, lt, count));
      is_table = subst (λ n. IsTable (chosen_up_to s next n) now) (sym count) graphs;
    }

entries_same : (file : ℕ) (mark : Mark) (came next : ℕ → Arrived) → HasEndMore file mark came next → (k : ℕ) → (came k).entries ≡ (next k).entries
entries_same file mark came next more k =
    elim (cases_eq k file) [
      | inl same ↦ ap (λ j. (came j).entries) same ∙ ap (λ (a : Arrived). a.entries) (sym more.here) ∙ ap (λ j. (next j).entries) (sym same)
      | inr apart ↦ ap (λ (a : Arrived). a.entries) (sym (more.others k apart))
    ]

pub counts_end : (s : Selection) (table : TableModel) (before after : List Flaws) (ns : List Note) (file : ℕ) (mark : Mark)
    → file < length before → length after ≡ length before
    → ((other : Flaws) → get_or after file other ≡ record (get_or before file other) { mark = mark })
    → ((k : ℕ) (other : Flaws) → k ≢ file → get_or after k other ≡ get_or before k other)
    → CountsHold s table before ns → CountsHold s table after (ns ++ End file mark ∷ [])
counts_end s table before after ns file mark below count here apart was =
    let next = end_more file mark was.arrived in
    let more = has_end_more file mark was.arrived in
    let files = length before in
    record {
      arrived = next;
      told = λ k lt. all_told_end files ns file mark (all_records was.arrived) (all_records next) (records_ended file mark was.arrived next more) was.told k (omega (arith, lt, count));
      flaws_are = λ k other lt. flaws_but files file before after was.arrived next apart more.others
          (λ o. flaws_end before after file mark was.arrived next o (here o) (was.flaws_are file o below) more) was.flaws_are k other (omega (arith, lt, count));
      is_table = subst (λ n. IsTable (chosen_up_to s next n) table) (sym count)
          (subst (λ graphs. IsTable graphs table) (chosen_entries s was.arrived next files (entries_same file mark was.arrived next more)) was.is_table);
    }

-- what is counted of all notes of a run
pub all_counted : (s : Selection) (columns : Columns) (choice : Choice) (meaning : ℕ → Meaning) (files : ℕ) (flaws : List Flaws) (table : TableModel) (ns : List Note)
    → length flaws ≡ files → table.columns ≡ columns → AreToldWhole choice meaning files ns → CountsHold s table flaws ns → IsAllCounted s columns choice meaning files flaws table
all_counted s columns choice meaning files flaws table ns count columns_are have held = record {
  books = books_up_to held.arrived files;
  of_files = told_books choice meaning files ns held.arrived (λ k below. held.told k (omega (arith, below, count))) have;
  flaws_are = flaws_up_to held.arrived files flaws count (λ k other below. held.flaws_are k other (omega (arith, below, count)));
  columns_are = columns_are;
  is_table = subst (λ graphs. IsTable graphs table) (ap (chosen_up_to s held.arrived) count ∙ sym (chosen_books s held.arrived files)) held.is_table;
}

-- ---- one graph

pub table_none : (s : Selection) (graphs : List Facts) (table : TableModel) → IsTable graphs table → IsTable (graphs ++ filter (chooses s) (option_to_list None)) table
table_none s graphs table is = subst (λ l. IsTable l table) (sym (append-nil graphs)) is

pub table_other : (s : Selection) (facts : Facts) (graphs : List Facts) (table : TableModel) → chooses s facts ≡ false → IsTable graphs table
    → IsTable (graphs ++ filter (chooses s) (option_to_list (Some facts))) table
table_other s facts graphs table not_chosen is =
    subst (λ l. IsTable l table) (sym (append-nil graphs) ∙ ap (λ b. graphs ++ cond b (facts ∷ []) []) (sym not_chosen)) is

pub table_more : (s : Selection) (facts : Facts) (graphs : List Facts) (table : TableModel) → chooses s facts ≡ true → IsTable (graphs ++ facts ∷ []) table
    → IsTable (graphs ++ filter (chooses s) (option_to_list (Some facts))) table
table_more s facts graphs table chosen is = subst (λ l. IsTable l table) (ap (λ b. graphs ++ cond b (facts ∷ []) []) (sym chosen)) is
