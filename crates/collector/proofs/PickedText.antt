-- What is picked and what waits, after one record or one mark more.
use Rattle.std.proofs.Common.{◌≡◌, ◌≢◌, ℕ, zero, suc, ◌+◌, ◌==◌, ◌<◌, ◌≤◌, true, false, if◌then◌else◌, List, [], ◌∷◌, ◌++◌, length, get_or, Option, All, inl, inr, refl, sym, ap, subst, ◌∙◌, arith, append_assoc, append-nil}
use Rattle.std.specs.Prelude.{⊤}
use Rattle.std.proofs.lemmas.Bool.{cases_eq, cases_lt, eq-eqb, ne_eqb}
use Rattle.std.proofs.lemmas.List.Concat.{flat_map-append}
use Rattle.planar_code.specs.declared.TheConstants.{HEADER}
use Rattle.streams.specs.declared.frames.Mark.{Mark}
use Rattle.streams.specs.Sink.{AppendsPrefix, IsInTransit}
use Rattle.streams.specs.FrameLines.{added_none, added_both}
use Rattle.file_order.specs.declared.chunks.Waiting.{Waiting}
use Rattle.collector.specs.Came.{Came}
use Rattle.file_order.specs.FileOrder.{OrderModel, StaysAt, at_once, for_later}
use Rattle.file_order.specs.Waits.{ChangesAt, IsNothing, TakesIn, GetsMark, IsTaken}
use Rattle.collector.specs.Written.{IsCounted}
use Rattle.file_order.specs.Writing.{GoesOn, IsPartlyAdded}
use Rattle.collector.proofs.Adding.{counted_one}
use Rattle.file_order.proofs.Prefixes.{Longer, appends_longer, way_front}
use Rattle.file_order.proofs.Waits.{after_change, some_waiting}
use Rattle.graph_facts.specs.declared.selection.Selection.{Selection}
use Rattle.collector.specs.FactBooks.{FactEntry}
use Rattle.collector.specs.Picked.{picked_in, picked_of}
use Rattle.collector.specs.Arrived.{Arrived, none_arrived, HasEntryMore, HasEndMore, record_of, picked_up_to}
use Rattle.collector.specs.PicksHolding.{ArePicked, IsPartOfPicked}
use Rattle.collector.proofs.Arriving.{all_records, records_more, records_ended}

-- ---- texts

-- the text of the first files, where nothing more has arrived of them
pub up_to_same : (s : Selection) (came next : ℕ → Arrived) (n : ℕ) → ((k : ℕ) → k < n → next k ≡ came k) → picked_up_to s came n ≡ picked_up_to s next n
up_to_same s came next zero same = refl
up_to_same s came next (suc n) same =
    ap (λ l. l ++ picked_in s (came n).entries) (up_to_same s came next n (λ k below. same k (omega (arith, below))))
    ∙ ap (λ (a : Arrived). picked_up_to s next n ++ picked_in s a.entries) (sym (same n (omega arith)))

-- or no entry has
up_to_entries : (s : Selection) (came next : ℕ → Arrived) (n : ℕ) → ((k : ℕ) → (came k).entries ≡ (next k).entries) → picked_up_to s came n ≡ picked_up_to s next n
up_to_entries s came next zero same = refl
up_to_entries s came next (suc n) same =
    ap (λ l. l ++ picked_in s (came n).entries) (up_to_entries s came next n same)
    ∙ ap (λ (es : List FactEntry). picked_up_to s next n ++ picked_in s es) (same n)

picked_more : (s : Selection) (entries : List FactEntry) (entry : FactEntry) → picked_in s (entries ++ entry ∷ []) ≡ picked_in s entries ++ picked_of s entry
picked_more s entries entry = flat_map-append (picked_of s) entries (entry ∷ []) ∙ ap (λ l. picked_in s entries ++ l) (append-nil (picked_of s entry))

-- the text so far, with one record of the current file more
text_more : (s : Selection) (current : ℕ) (came next : ℕ → Arrived) (entry : FactEntry) (text : List ℕ) → text ≡ picked_of s entry → HasEntryMore current entry came next
    → (HEADER ++ picked_up_to s came (suc current)) ++ text ≡ HEADER ++ picked_up_to s next (suc current)
text_more s current came next entry text is more =
    let P = picked_up_to s came current in
    let L = picked_in s (came current).entries in
    append_assoc HEADER (P ++ L) text
    ∙ ap (λ l. HEADER ++ l) (append_assoc P L text
    ∙ ap (λ l. P ++ l) (ap (λ l. L ++ l) is ∙ sym (picked_more s (came current).entries entry) ∙ ap (λ (a : Arrived). picked_in s a.entries) (sym more.here))
    ∙ ap (λ l. l ++ picked_in s (next current).entries) (up_to_same s came next current (λ k lt. more.others k (λ e. absurd (omega (arith, lt, e))))))

-- the text of more files begins with that of fewer
up_to_longer : (s : Selection) (came : ℕ → Arrived) (n m : ℕ) → n ≤ m → Longer (picked_up_to s came m) (picked_up_to s came n)
up_to_longer s came n zero within = ([], ap (picked_up_to s came) (let e : 0 ≡ n = omega (arith, within) in e) ∙ sym (append-nil (picked_up_to s came n)))
up_to_longer s came n (suc m) within =
    elim (cases_lt m n) [
      | inl past ↦ ([], ap (picked_up_to s came) (let e : suc m ≡ n = omega (arith, within, past) in e) ∙ sym (append-nil (picked_up_to s came n)))
      | inr before ↦
          let rest = up_to_longer s came n m before in
          (rest.0 ++ picked_in s (came m).entries, ap (λ l. l ++ picked_in s (came m).entries) rest.1 ∙ append_assoc (picked_up_to s came n) rest.0 (picked_in s (came m).entries))
    ]

header_longer : (whole text : List ℕ) → Longer whole text → Longer (HEADER ++ whole) (HEADER ++ text)
header_longer whole text longer = (longer.0, ap (λ l. HEADER ++ l) longer.1 ∙ sym (append_assoc HEADER text longer.0))

-- there is nothing of the file after the last one
pub up_to_last : (s : Selection) (came : ℕ → Arrived) (n : ℕ) → came n ≡ none_arrived → picked_up_to s came (suc n) ≡ picked_up_to s came n
up_to_last s came n none = ap (λ (a : Arrived). picked_up_to s came n ++ picked_in s a.entries) none ∙ append-nil (picked_up_to s came n)

-- ---- what was partly added

-- a beginning of the text up to the current file is one of all
pub part_of : (s : Selection) (start now : Option (List ℕ)) (files : ℕ) (came : ℕ → Arrived) (current : ℕ) → current ≤ files → ((k : ℕ) → files ≤ k → came k ≡ none_arrived)
    → AppendsPrefix start now (HEADER ++ picked_up_to s came (suc current)) → IsPartOfPicked s start now files came
part_of s start now files came current within none added =
    elim (cases_lt current files) [
      | inl below ↦
          appends_longer start now (HEADER ++ picked_up_to s came files) (HEADER ++ picked_up_to s came (suc current))
          (header_longer (picked_up_to s came files) (picked_up_to s came (suc current)) (up_to_longer s came (suc current) files (omega (arith, below)))) added
      | inr past ↦
          let same : current ≡ files = omega (arith, within, past) in
          subst (λ l. AppendsPrefix start now (HEADER ++ l)) (up_to_last s came current (none current past) ∙ ap (picked_up_to s came) same) added
    ]

pub part_here : (s : Selection) (start now : Option (List ℕ)) (buffer : List ℕ) (current : ℕ) (waiting : List Waiting) (came : ℕ → Arrived)
    → ArePicked s start now buffer current waiting came → IsPartOfPicked s start now (length waiting) came
part_here s start now buffer current waiting came was = part_of s start now (length waiting) came current was.within was.none (way_front start now buffer _ was.text)

-- where what was buffered was to be put
pub part_flushed : (s : Selection) (start old new : Option (List ℕ)) (buffer : List ℕ) (current : ℕ) (waiting : List Waiting) (came : ℕ → Arrived)
    → AppendsPrefix old new buffer → ArePicked s start old buffer current waiting came → IsPartOfPicked s start new (length waiting) came
part_flushed s start old new buffer current waiting came put was =
    let way = was.text in
    part_of s start new (length waiting) came current was.within was.none
    (way.sent ++ put.0, put.1, way.split ∙ ap (λ l. way.sent ++ l) put.2 ∙ sym (append_assoc way.sent put.0 put.1), added_both start old new way.sent put.0 way.added put.3)

-- nothing has arrived of other files
none_more : (file files : ℕ) (came next : ℕ → Arrived) → file < files → ((other : ℕ) → other ≢ file → next other ≡ came other) → ((k : ℕ) → files ≤ k → came k ≡ none_arrived)
    → (k : ℕ) → files ≤ k → next k ≡ none_arrived
none_more file files came next below others none k past = others k (λ e. absurd (omega (arith, past, below, e))) ∙ none k past

-- where one more record of another file was not put
part_behind : (s : Selection) (start old new : Option (List ℕ)) (buffer : List ℕ) (file current : ℕ) (waiting : List Waiting) (came next : ℕ → Arrived) (entry : FactEntry)
    → file < length waiting → current < file → HasEntryMore file entry came next → IsPartlyAdded old buffer new []
    → ArePicked s start old buffer current waiting came → IsPartOfPicked s start new (length waiting) next
part_behind s start old new buffer file current waiting came next entry below before more breaks was =
    let whole = HEADER ++ picked_up_to s came (suc current) in
    let added : AppendsPrefix start new whole = subst (AppendsPrefix start new) (append-nil whole) (breaks start whole was.text) in
    part_of s start new (length waiting) next current was.within (none_more file (length waiting) came next below more.others was.none)
    (subst (λ l. AppendsPrefix start new (HEADER ++ l)) (up_to_same s came next (suc current) (λ k lt. more.others k (λ e. absurd (omega (arith, lt, before, e))))) added)

-- where one of the current file was put in part
part_line : (s : Selection) (start old new : Option (List ℕ)) (buffer : List ℕ) (current : ℕ) (waiting : List Waiting) (came next : ℕ → Arrived) (entry : FactEntry) (text : List ℕ)
    → current < length waiting → text ≡ picked_of s entry → HasEntryMore current entry came next → IsPartlyAdded old buffer new text
    → ArePicked s start old buffer current waiting came → IsPartOfPicked s start new (length waiting) next
part_line s start old new buffer current waiting came next entry text below is more breaks was =
    part_of s start new (length waiting) next current was.within (none_more current (length waiting) came next below more.others was.none)
    (subst (AppendsPrefix start new) (text_more s current came next entry text is more) (breaks start _ was.text))

-- where one of either was
pub part_more : (s : Selection) (start old new : Option (List ℕ)) (before : OrderModel) (file : ℕ) (came next : ℕ → Arrived) (entry : FactEntry) (text : List ℕ)
    → file < length before.waiting → before.current ≤ file → text ≡ picked_of s entry → HasEntryMore file entry came next
    → IsPartlyAdded old before.buffer new (at_once before.current file text)
    → ArePicked s start old before.buffer before.current before.waiting came → IsPartOfPicked s start new (length before.waiting) next
part_more s start old new before file came next entry text below from is more breaks was =
    elim (cases_eq file before.current) [
      | inl here ↦
          part_line s start old new before.buffer before.current before.waiting came next entry text (omega (arith, below, here)) is
          (subst (λ f. HasEntryMore f entry came next) here more)
          (subst (λ b. IsPartlyAdded old before.buffer new (if b then text else [])) (eq-eqb file before.current here) breaks) was
      | inr apart ↦
          part_behind s start old new before.buffer file before.current before.waiting came next entry below (omega (arith, from, apart)) more
          (subst (λ b. IsPartlyAdded old before.buffer new (if b then text else [])) (ne_eqb file before.current apart) breaks) was
    ]

-- ---- what is picked

-- a record of the current file went on its way
picked_current : (s : Selection) (start old new : Option (List ℕ)) (buffer buffered : List ℕ) (current : ℕ) (waiting after : List Waiting) (came next : ℕ → Arrived) (entry : FactEntry) (text : List ℕ)
    → current < length waiting → text ≡ picked_of s entry → HasEntryMore current entry came next → ChangesAt current (TakesIn []) waiting after → GoesOn old buffer new buffered text
    → ArePicked s start old buffer current waiting came → ArePicked s start new buffered current after next
picked_current s start old new buffer buffered current waiting after came next entry text below is more changed goes was =
    let records = records_more current entry came next more in
    record {
      within = omega (arith, was.within, changed.count);
      counted = λ k other lt. after_change IsCounted (λ _. ⊤) current waiting after (all_records came) (all_records next) (TakesIn []) changed records.others below
          (λ _ w w' c had. counted_one current (record_of entry) (all_records came) (all_records next) w w' records c.count c.mark had) (λ k o _ lt. was.counted k o lt) k other tt lt;
      lines = after_change (λ w (a : Arrived). w.lines ≡ picked_in s a.entries) (λ k. current < k) current waiting after came next (TakesIn []) changed more.others below
          (λ lt. absurd (omega (arith, lt))) was.lines;
      none = λ k past. none_more current (length waiting) came next below more.others was.none k (omega (arith, past, changed.count));
      text = subst (IsInTransit start new buffered) (text_more s current came next entry text is more) (goes start _ was.text);
    }

-- a record of a later file waits
picked_behind : (s : Selection) (start old new : Option (List ℕ)) (buffer buffered : List ℕ) (file current : ℕ) (waiting after : List Waiting) (came next : ℕ → Arrived) (entry : FactEntry) (text : List ℕ)
    → file < length waiting → current < file → text ≡ picked_of s entry → HasEntryMore file entry came next → ChangesAt file (TakesIn text) waiting after → GoesOn old buffer new buffered []
    → ArePicked s start old buffer current waiting came → ArePicked s start new buffered current after next
picked_behind s start old new buffer buffered file current waiting after came next entry text below before is more changed goes was =
    let records = records_more file entry came next more in
    let whole = HEADER ++ picked_up_to s came (suc current) in
    record {
      within = omega (arith, was.within, changed.count);
      counted = λ k other lt. after_change IsCounted (λ _. ⊤) file waiting after (all_records came) (all_records next) (TakesIn text) changed records.others below
          (λ _ w w' c had. counted_one file (record_of entry) (all_records came) (all_records next) w w' records c.count c.mark had) (λ k o _ lt. was.counted k o lt) k other tt lt;
      lines = after_change (λ w (a : Arrived). w.lines ≡ picked_in s a.entries) (λ k. current < k) file waiting after came next (TakesIn text) changed more.others below
          (λ _ w w' c same. c.lines ∙ ap (λ l. l ++ text) same ∙ ap (λ l. picked_in s (came file).entries ++ l) is ∙ sym (picked_more s (came file).entries entry)
          ∙ ap (λ (a : Arrived). picked_in s a.entries) (sym more.here)) was.lines;
      none = λ k past. none_more file (length waiting) came next below more.others was.none k (omega (arith, past, changed.count));
      text = subst (λ l. IsInTransit start new buffered (HEADER ++ l)) (up_to_same s came next (suc current) (λ k lt. more.others k (λ e. absurd (omega (arith, lt, before, e)))))
          (subst (IsInTransit start new buffered) (append-nil whole) (goes start whole was.text));
    }

-- a record of one or the other arrived
pub picked_added : (s : Selection) (start old new : Option (List ℕ)) (before after : OrderModel) (file : ℕ) (came next : ℕ → Arrived) (entry : FactEntry) (text : List ℕ)
    → file < length before.waiting → before.current ≤ file → text ≡ picked_of s entry → HasEntryMore file entry came next → StaysAt before after
    → GoesOn old before.buffer new after.buffer (at_once before.current file text) → ChangesAt file (TakesIn (for_later before.current file text)) before.waiting after.waiting
    → ArePicked s start old before.buffer before.current before.waiting came → ArePicked s start new after.buffer after.current after.waiting next
picked_added s start old new before after file came next entry text below from is more same goes changed was =
    subst (λ n. ArePicked s start new after.buffer n after.waiting next) (sym same.current)
    (elim (cases_eq file before.current) [
      | inl here ↦
          let test : (file == before.current) ≡ true = eq-eqb file before.current here in
          picked_current s start old new before.buffer after.buffer before.current before.waiting after.waiting came next entry text (omega (arith, below, here)) is
          (subst (λ f. HasEntryMore f entry came next) here more)
          (subst (λ f. ChangesAt f (TakesIn []) before.waiting after.waiting) here
          (subst (λ b. ChangesAt file (TakesIn (if b then [] else text)) before.waiting after.waiting) test changed))
          (subst (λ b. GoesOn old before.buffer new after.buffer (if b then text else [])) test goes) was
      | inr apart ↦
          let test : (file == before.current) ≡ false = ne_eqb file before.current apart in
          picked_behind s start old new before.buffer after.buffer file before.current before.waiting after.waiting came next entry text below (omega (arith, from, apart)) is more
          (subst (λ b. ChangesAt file (TakesIn (if b then [] else text)) before.waiting after.waiting) test changed)
          (subst (λ b. GoesOn old before.buffer new after.buffer (if b then text else [])) test goes) was
    ])

entries_same : (file : ℕ) (mark : Mark) (came next : ℕ → Arrived) → HasEndMore file mark came next → (k : ℕ) → (came k).entries ≡ (next k).entries
entries_same file mark came next more k =
    elim (cases_eq k file) [
      | inl same ↦ ap (λ j. (came j).entries) same ∙ ap (λ (a : Arrived). a.entries) (sym more.here) ∙ ap (λ j. (next j).entries) (sym same)
      | inr apart ↦ ap (λ (a : Arrived). a.entries) (sym (more.others k apart))
    ]

marked_here : (s : Selection) (start now : Option (List ℕ)) (buffer : List ℕ) (file current : ℕ) (waiting after : List Waiting) (came next : ℕ → Arrived) (many : ℕ) (mark : Mark)
    → file < length waiting → HasEndMore file mark came next → ChangesAt file (GetsMark many mark) waiting after
    → ArePicked s start now buffer current waiting came → ArePicked s start now buffer current after next
marked_here s start now buffer file current waiting after came next many mark below more changed was =
    let records = records_ended file mark came next more in
    let entries = entries_same file mark came next more in
    record {
      within = omega (arith, was.within, changed.count);
      counted = λ k other lt. after_change IsCounted (λ _. ⊤) file waiting after (all_records came) (all_records next) (GetsMark many mark) changed records.others below
          (λ _ w w' c had. record {
            count = c.count ∙ had.count ∙ ap (λ (a : Came). length a.entries) (sym records.here);
            mark = c.mark ∙ ap (λ (a : Came). a.mark) (sym records.here);
          }) (λ k o _ lt. was.counted k o lt) k other tt lt;
      lines = after_change (λ w (a : Arrived). w.lines ≡ picked_in s a.entries) (λ k. current < k) file waiting after came next (GetsMark many mark) changed more.others below
          (λ _ w w' c same. c.lines ∙ same ∙ ap (picked_in s) (entries file)) was.lines;
      none = λ k past. none_more file (length waiting) came next below more.others was.none k (omega (arith, past, changed.count));
      text = subst (λ l. IsInTransit start now buffer (HEADER ++ l)) (up_to_entries s came next (suc current) entries) was.text;
    }

-- a mark is kept
pub picked_marked : (s : Selection) (start now : Option (List ℕ)) (before after : OrderModel) (file : ℕ) (came next : ℕ → Arrived) (many : ℕ) (mark : Mark)
    → file < length before.waiting → HasEndMore file mark came next → ChangesAt file (GetsMark many mark) before.waiting after.waiting → after ≡ record before { waiting = after.waiting }
    → ArePicked s start now before.buffer before.current before.waiting came → ArePicked s start now after.buffer after.current after.waiting next
picked_marked s start now before after file came next many mark below more changed same was =
    subst (λ (o : OrderModel). ArePicked s start now o.buffer o.current o.waiting next) (sym same)
    (marked_here s start now before.buffer file before.current before.waiting after.waiting came next many mark below more changed was)

-- the text with that of the next file
up_to_next : (s : Selection) (came : ℕ → Arrived) (current next : ℕ) (lines : List ℕ) → next ≡ current + 1 → lines ≡ picked_in s (came next).entries
    → (HEADER ++ picked_up_to s came (suc current)) ++ lines ≡ HEADER ++ picked_up_to s came (suc next)
up_to_next s came current next lines next_is are =
    let same : suc current ≡ next = omega (arith, next_is) in
    append_assoc HEADER (picked_up_to s came (suc current)) lines
    ∙ ap (λ l. HEADER ++ l) (ap (λ l. picked_up_to s came (suc current) ++ l) are ∙ ap (λ n. picked_up_to s came n ++ picked_in s (came next).entries) same)

-- what waited of the next file went on its way
next_here : (s : Selection) (start old new : Option (List ℕ)) (buffer buffered : List ℕ) (current next : ℕ) (waiting after : List Waiting) (came : ℕ → Arrived)
    → next ≡ current + 1 → next < length waiting → ChangesAt next IsTaken waiting after → ((other : Waiting) → GoesOn old buffer new buffered (get_or waiting next other).lines)
    → ArePicked s start old buffer current waiting came → ArePicked s start new buffered next after came
next_here s start old new buffer buffered current next waiting after came next_is below changed goes was =
    let some = some_waiting waiting next below in
    let are = was.lines next some (omega (arith, next_is)) below in
    record {
      within = omega (arith, below, changed.count);
      counted = λ k other lt. after_change IsCounted (λ _. ⊤) next waiting after (all_records came) (all_records came) IsTaken changed (λ _ _. refl) below
          (λ _ w w' c had. record { count = c.count ∙ had.count; mark = c.mark ∙ had.mark }) (λ k o _ lt. was.counted k o lt) k other tt lt;
      lines = after_change (λ w (a : Arrived). w.lines ≡ picked_in s a.entries) (λ k. next < k) next waiting after came came IsTaken changed (λ _ _. refl) below
          (λ lt. absurd (omega (arith, lt))) (λ k o past lt. was.lines k o (omega (arith, past, next_is)) lt);
      none = λ k past. was.none k (omega (arith, past, changed.count));
      text = subst (IsInTransit start new buffered) (up_to_next s came current next (get_or waiting next some).lines next_is are) (goes some start _ was.text);
    }

-- there is no next file
over_here : (s : Selection) (start now : Option (List ℕ)) (buffer : List ℕ) (current next : ℕ) (waiting : List Waiting) (came : ℕ → Arrived)
    → next ≡ current + 1 → current < length waiting → length waiting ≤ next → ArePicked s start now buffer current waiting came → ArePicked s start now buffer next waiting came
over_here s start now buffer current next waiting came next_is below past was = record {
  within = omega (arith, below, next_is);
  counted = was.counted;
  lines = λ k other lt. was.lines k other (omega (arith, lt, next_is));
  none = was.none;
  text = subst (λ l. IsInTransit start now buffer l) (sym (append-nil (HEADER ++ picked_up_to s came (suc current)))
      ∙ up_to_next s came current next [] next_is (ap (λ (a : Arrived). picked_in s a.entries) (sym (was.none next past)))) was.text;
}

-- where it went in part
part_of_next : (s : Selection) (start old new : Option (List ℕ)) (buffer : List ℕ) (current next : ℕ) (waiting : List Waiting) (came : ℕ → Arrived)
    → next ≡ current + 1 → next < length waiting → ((other : Waiting) → IsPartlyAdded old buffer new (get_or waiting next other).lines)
    → ArePicked s start old buffer current waiting came → IsPartOfPicked s start new (length waiting) came
part_of_next s start old new buffer current next waiting came next_is below breaks was =
    let some = some_waiting waiting next below in
    let are = was.lines next some (omega (arith, next_is)) below in
    part_of s start new (length waiting) came next (omega (arith, below)) was.none
    (subst (AppendsPrefix start new) (up_to_next s came current next (get_or waiting next some).lines next_is are) (breaks some start _ was.text))

-- the next file is current
pub picked_next : (s : Selection) (start old new : Option (List ℕ)) (before next after : OrderModel) (came : ℕ → Arrived)
    → next ≡ record before { current = before.current + 1 } → before.current + 1 < length before.waiting
    → ChangesAt next.current IsTaken next.waiting after.waiting → ((other : Waiting) → GoesOn old next.buffer new after.buffer (get_or next.waiting next.current other).lines) → after.current ≡ next.current
    → ArePicked s start old before.buffer before.current before.waiting came → ArePicked s start new after.buffer after.current after.waiting came
picked_next s start old new before next after came went below changed goes current was =
    subst (λ n. ArePicked s start new after.buffer n after.waiting came) (sym (current ∙ ap (λ (o : OrderModel). o.current) went))
    (next_here s start old new before.buffer after.buffer before.current (before.current + 1) before.waiting after.waiting came refl below
    (subst (λ (o : OrderModel). ChangesAt o.current IsTaken o.waiting after.waiting) went changed)
    (subst (λ (o : OrderModel). (other : Waiting) → GoesOn old o.buffer new after.buffer (get_or o.waiting o.current other).lines) went goes) was)

pub picked_over : (s : Selection) (start now : Option (List ℕ)) (before next : OrderModel) (came : ℕ → Arrived)
    → next ≡ record before { current = before.current + 1 } → before.current < length before.waiting → length before.waiting ≤ before.current + 1
    → ArePicked s start now before.buffer before.current before.waiting came → ArePicked s start now next.buffer next.current next.waiting came
picked_over s start now before next came went below past was =
    subst (λ (o : OrderModel). ArePicked s start now o.buffer o.current o.waiting came) (sym went)
    (over_here s start now before.buffer before.current (before.current + 1) before.waiting came refl below past was)

pub part_next : (s : Selection) (start old new : Option (List ℕ)) (before next : OrderModel) (came : ℕ → Arrived)
    → next ≡ record before { current = before.current + 1 } → before.current + 1 < length before.waiting
    → ((other : Waiting) → IsPartlyAdded old next.buffer new (get_or next.waiting next.current other).lines)
    → ArePicked s start old before.buffer before.current before.waiting came → IsPartOfPicked s start new (length before.waiting) came
part_next s start old new before next came went below breaks was =
    part_of_next s start old new before.buffer before.current (before.current + 1) before.waiting came refl below
    (subst (λ (o : OrderModel). (other : Waiting) → IsPartlyAdded old o.buffer new (get_or o.waiting o.current other).lines) went breaks) was

-- nothing has arrived, and the header is on its way
pub picked_none : (s : Selection) (start : Option (List ℕ)) (buffer : List ℕ) (waiting : List Waiting) → All IsNothing waiting → buffer ≡ HEADER → ArePicked s start start buffer 0 waiting (λ _. none_arrived)
picked_none s start buffer waiting all is = record {
  within = omega arith;
  counted = λ k other below. record { count = (all k other below).count; mark = (all k other below).mark };
  lines = λ k other from below. (all k other below).lines;
  none = λ _ _. refl;
  text = record { sent = []; split = append-nil HEADER ∙ sym is; added = added_none start };
}
