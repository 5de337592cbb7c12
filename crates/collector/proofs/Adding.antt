-- What is written and what waits, after one line or one mark more.
use Rattle.std.proofs.Common.{◌≡◌, ◌≢◌, ◌==◌, ℕ, zero, suc, ◌+◌, ◌<◌, ◌≤◌, true, false, List, [], ◌∷◌, ◌++◌, length, Option, All, if◌then◌else◌, inl, inr, refl, sym, ap, subst, ◌∙◌, arith, append_assoc, append-nil, length-append}
use Rattle.std.proofs.lemmas.Bool.{cases_eq, eq-eqb, ne_eqb}
use Rattle.streams.specs.declared.frames.Mark.{Mark}
use Rattle.streams.specs.Sink.{IsInTransit}
use Rattle.streams.specs.FrameLines.{added_none}
use Rattle.reports.specs.declared.answer.Entry.{Entry}
use Rattle.streams.specs.declared.frames.Form.{Form}
use Rattle.collector.specs.FormLines.{line_in, preamble_in, lines_in}
use Rattle.file_order.specs.declared.chunks.Waiting.{Waiting}
use Rattle.collector.specs.Came.{Came, nothing, HasMark, HasEntryMore, HasMarkMore}
use Rattle.file_order.specs.FileOrder.{OrderModel, StaysAt, at_once, for_later}
use Rattle.file_order.specs.Waits.{ChangesAt, IsNothing, TakesIn, GetsMark}
use Rattle.collector.specs.Written.{begun, ended, ended_texts, IsCounted, AreWritten}
use Rattle.file_order.specs.Writing.{GoesOn}
use Rattle.file_order.proofs.Waits.{after_change}

-- the text of the first files, where nothing more has come of them
pub texts_same : (form : Form) (came next : ℕ → Came) (n : ℕ) → ((k : ℕ) → k < n → next k ≡ came k) → ended_texts form came n ≡ ended_texts form next n
texts_same form came next zero same = refl
texts_same form came next (suc n) same =
    ap (λ l. l ++ ended form n (came n)) (texts_same form came next n (λ k below. same k (omega (arith, below))))
    ∙ ap (λ c. ended_texts form next n ++ ended form n c) (sym (same n (omega arith)))

lines-more : (form : Form) (xs : List Entry) (entry : Entry) → lines_in form (xs ++ entry ∷ []) ≡ lines_in form xs ++ line_in form entry
lines-more form [] entry = append-nil (line_in form entry)
lines-more form (x ∷ xs) entry = ap (λ l. line_in form x ++ l) (lines-more form xs entry) ∙ sym (append_assoc (line_in form x) (lines_in form xs) (line_in form entry))

-- an entry more is counted
pub counted_one : (file : ℕ) (entry : Entry) (came next : ℕ → Came) (w w' : Waiting) → HasEntryMore file entry came next → w'.count ≡ w.count + 1 → w'.mark ≡ w.mark
    → IsCounted w (came file) → IsCounted w' (next file)
counted_one file entry came next w w' more count mark was = record {
  count =
      let longer : length (came file).entries + 1 ≡ length ((came file).entries ++ entry ∷ []) = omega (arith, length-append (came file).entries (entry ∷ [])) in
      count ∙ ap (λ n. n + 1) was.count ∙ longer ∙ ap (λ (c : Came). length c.entries) (sym more.here);
  mark = mark ∙ was.mark ∙ ap (λ (c : Came). c.mark) (sym more.here);
}

-- where nothing more has come of the first files, they have ended as before
marked_same : (came next : ℕ → Came) (current : ℕ) → ((k : ℕ) → k < current → next k ≡ came k) → ((k : ℕ) → k < current → HasMark (came k)) → (k : ℕ) → k < current → HasMark (next k)
marked_same came next current same was k below = subst HasMark (sym (same k below)) (was k below)

-- the text so far, with one line of the current file more
pub current_more : (form : Form) (current : ℕ) (came next : ℕ → Came) (entry : Entry) (line : List ℕ) → line_in form entry ≡ line → HasEntryMore current entry came next
    → (ended_texts form came current ++ begun form current (came current)) ++ line ≡ ended_texts form next current ++ begun form current (next current)
current_more form current came next entry line is more =
    let T = ended_texts form came current in
    let H = preamble_in form (current + 1) in
    let L = lines_in form (came current).entries in
    append_assoc T (H ++ L) line
    ∙ ap (λ l. T ++ l) (append_assoc H L line ∙ ap (λ l. H ++ l) (ap (λ l. L ++ l) (sym is) ∙ sym (lines-more form (came current).entries entry)) ∙ ap (begun form current) (sym more.here))
    ∙ ap (λ t. t ++ begun form current (next current)) (texts_same form came next current (λ k lt. more.others k (λ e. absurd (omega (arith, lt, e)))))

-- a line of the current file went on its way
written_current : (form : Form) (start old new : Option (List ℕ)) (buffer buffered : List ℕ) (current : ℕ) (waiting after : List Waiting) (came next : ℕ → Came) (entry : Entry) (line : List ℕ)
    → current < length waiting → line_in form entry ≡ line → HasEntryMore current entry came next → ChangesAt current (TakesIn []) waiting after → GoesOn old buffer new buffered line
    → AreWritten form start old buffer current waiting came → AreWritten form start new buffered current after next
written_current form start old new buffer buffered current waiting after came next entry line below is more changed goes was =
    record {
      within = omega (arith, was.within, changed.count);
      marked = marked_same came next current (λ k lt. more.others k (λ e. absurd (omega (arith, lt, e)))) was.marked;
      counted = after_change IsCounted (λ k. current ≤ k) current waiting after came next (TakesIn []) changed more.others below
          (λ _ w w' c. counted_one current entry came next w w' more c.count c.mark) was.counted;
      lines = after_change (λ w c. w.lines ≡ lines_in form c.entries) (λ k. current < k) current waiting after came next (TakesIn []) changed more.others below
          (λ lt. absurd (omega (arith, lt))) was.lines;
      going = λ _. subst (IsInTransit start new buffered) (current_more form current came next entry line is more) (goes start (ended_texts form came current ++ begun form current (came current)) (was.going below));
      over = λ past. absurd (omega (arith, past, changed.count, below));
    }

-- what has come of the current file stays
current_same : (form : Form) (file current : ℕ) (came next : ℕ → Came) → current < file → ((other : ℕ) → other ≢ file → next other ≡ came other)
    → ended_texts form came current ++ begun form current (came current) ≡ ended_texts form next current ++ begun form current (next current)
current_same form file current came next before others =
    ap (λ t. t ++ begun form current (came current)) (texts_same form came next current (λ k lt. others k (λ e. absurd (omega (arith, lt, before, e)))))
    ∙ ap (λ c. ended_texts form next current ++ begun form current c) (sym (others current (λ e. absurd (omega (arith, before, e)))))

-- a line of a later file waits
written_behind : (form : Form) (start old new : Option (List ℕ)) (buffer buffered : List ℕ) (file current : ℕ) (waiting after : List Waiting) (came next : ℕ → Came) (entry : Entry) (line : List ℕ)
    → file < length waiting → current < file → line_in form entry ≡ line → HasEntryMore file entry came next → ChangesAt file (TakesIn line) waiting after → GoesOn old buffer new buffered []
    → AreWritten form start old buffer current waiting came → AreWritten form start new buffered current after next
written_behind form start old new buffer buffered file current waiting after came next entry line below before is more changed goes was =
    record {
      within = omega (arith, was.within, changed.count);
      marked = marked_same came next current (λ k lt. more.others k (λ e. absurd (omega (arith, lt, before, e)))) was.marked;
      counted = after_change IsCounted (λ k. current ≤ k) file waiting after came next (TakesIn line) changed more.others below
          (λ _ w w' c. counted_one file entry came next w w' more c.count c.mark) was.counted;
      lines = after_change (λ w c. w.lines ≡ lines_in form c.entries) (λ k. current < k) file waiting after came next (TakesIn line) changed more.others below
          (λ _ w w' c same. c.lines ∙ ap (λ l. l ++ line) same ∙ ap (λ l. lines_in form (came file).entries ++ l) (sym is) ∙ sym (lines-more form (came file).entries entry)
          ∙ ap (λ (c : Came). lines_in form c.entries) (sym more.here)) was.lines;
      going = λ lt. subst (IsInTransit start new buffered) (append-nil (ended_texts form came current ++ begun form current (came current)) ∙ current_same form file current came next before more.others) (goes start _ (was.going (omega (arith, lt, changed.count))));
      over = λ past. absurd (omega (arith, past, changed.count, below, before));
    }

-- a line of one file or another was added
pub written_more : (form : Form) (start old new : Option (List ℕ)) (before after : OrderModel) (file : ℕ) (came next : ℕ → Came) (entry : Entry) (line : List ℕ)
    → file < length before.waiting → before.current ≤ file → line_in form entry ≡ line → HasEntryMore file entry came next → StaysAt before after
    → GoesOn old before.buffer new after.buffer (at_once before.current file line) → ChangesAt file (TakesIn (for_later before.current file line)) before.waiting after.waiting
    → AreWritten form start old before.buffer before.current before.waiting came → AreWritten form start new after.buffer after.current after.waiting next
written_more form start old new before after file came next entry line below from is more same goes changed was =
    subst (λ n. AreWritten form start new after.buffer n after.waiting next) (sym same.current)
    (elim (cases_eq file before.current) [
      | inl here ↦
          let test : (file == before.current) ≡ true = eq-eqb file before.current here in
          written_current form start old new before.buffer after.buffer before.current before.waiting after.waiting came next entry line (omega (arith, below, here)) is
          (subst (λ f. HasEntryMore f entry came next) here more)
          (subst (λ f. ChangesAt f (TakesIn []) before.waiting after.waiting) here
          (subst (λ b. ChangesAt file (TakesIn (if b then [] else line)) before.waiting after.waiting) test changed))
          (subst (λ b. GoesOn old before.buffer new after.buffer (if b then line else [])) test goes) was
      | inr apart ↦
          let test : (file == before.current) ≡ false = ne_eqb file before.current apart in
          written_behind form start old new before.buffer after.buffer file before.current before.waiting after.waiting came next entry line below (omega (arith, from, apart)) is more
          (subst (λ b. ChangesAt file (TakesIn (if b then [] else line)) before.waiting after.waiting) test changed)
          (subst (λ b. GoesOn old before.buffer new after.buffer (if b then line else [])) test goes) was
    ])

entries_same : (file : ℕ) (mark : Mark) (came next : ℕ → Came) → HasMarkMore file mark came next → (k : ℕ) → (came k).entries ≡ (next k).entries
entries_same file mark came next more k =
    elim (cases_eq k file) [
      | inl same ↦ ap (λ j. (came j).entries) same ∙ ap (λ (c : Came). c.entries) (sym more.here) ∙ ap (λ j. (next j).entries) (sym same)
      | inr apart ↦ ap (λ (c : Came). c.entries) (sym (more.others k apart))
    ]

marked_here : (form : Form) (start now : Option (List ℕ)) (buffer : List ℕ) (file current : ℕ) (waiting after : List Waiting) (came next : ℕ → Came) (many : ℕ) (mark : Mark)
    → file < length waiting → current ≤ file → HasMarkMore file mark came next → ChangesAt file (GetsMark many mark) waiting after
    → AreWritten form start now buffer current waiting came → AreWritten form start now buffer current after next
marked_here form start now buffer file current waiting after came next many mark below before more changed was =
    let text : ended_texts form came current ++ begun form current (came current) ≡ ended_texts form next current ++ begun form current (next current) =
    ap (λ t. t ++ begun form current (came current)) (texts_same form came next current (λ k lt. more.others k (λ e. absurd (omega (arith, lt, before, e)))))
    ∙ ap (λ l. ended_texts form next current ++ (preamble_in form (current + 1) ++ lines_in form l)) (entries_same file mark came next more current) in
    record {
      within = omega (arith, was.within, changed.count);
      marked = marked_same came next current (λ k lt. more.others k (λ e. absurd (omega (arith, lt, before, e)))) was.marked;
      counted = after_change IsCounted (λ k. current ≤ k) file waiting after came next (GetsMark many mark) changed more.others below
          (λ _ w w' c had. record {
            count = c.count ∙ had.count ∙ ap (λ (l : List Entry). length l) (entries_same file mark came next more file);
            mark = c.mark ∙ ap (λ (c : Came). c.mark) (sym more.here);
          }) was.counted;
      lines = after_change (λ w c. w.lines ≡ lines_in form c.entries) (λ k. current < k) file waiting after came next (GetsMark many mark) changed more.others below
          (λ _ w w' c same. c.lines ∙ same ∙ ap (lines_in form) (entries_same file mark came next more file)) was.lines;
      going = λ lt. subst (IsInTransit start now buffer) text (was.going (omega (arith, lt, changed.count)));
      over = λ past. absurd (omega (arith, past, changed.count, below, before));
    }

-- a mark is kept
pub written_marked : (form : Form) (start now : Option (List ℕ)) (before after : OrderModel) (file : ℕ) (came next : ℕ → Came) (many : ℕ) (mark : Mark)
    → file < length before.waiting → before.current ≤ file → HasMarkMore file mark came next → ChangesAt file (GetsMark many mark) before.waiting after.waiting → after ≡ record before { waiting = after.waiting }
    → AreWritten form start now before.buffer before.current before.waiting came → AreWritten form start now after.buffer after.current after.waiting next
written_marked form start now before after file came next many mark below from more changed same was =
    subst (λ o. AreWritten form start now o.buffer o.current o.waiting next) (sym same)
    (marked_here form start now before.buffer file before.current before.waiting after.waiting came next many mark below from more changed was)

-- nothing has come, and the preamble of the first file is on its way
pub written_none : (form : Form) (start : Option (List ℕ)) (buffer : List ℕ) (waiting : List Waiting) → All IsNothing waiting
    → (0 < length waiting → buffer ≡ preamble_in form (0 + 1)) → (length waiting ≤ 0 → buffer ≡ []) → AreWritten form start start buffer 0 waiting (λ _. nothing)
written_none form start buffer waiting all some none = record {
  within = omega arith;
  marked = λ k below. absurd (omega (arith, below));
  counted = λ k other from below. record { count = (all k other below).count; mark = (all k other below).mark };
  lines = λ k other from below. (all k other below).lines;
  going = λ below. record { sent = []; split = append-nil (preamble_in form (0 + 1)) ∙ sym (some below); added = added_none start };
  over = λ past. record { sent = []; split = sym (none past); added = added_none start };
}
