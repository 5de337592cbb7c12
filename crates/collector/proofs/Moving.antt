-- What is written and what waits, as the current file moves on.
use Rattle.std.proofs.Common.{◌≡◌, ◌↔◌, ℕ, ◌+◌, ◌<◌, ◌≤◌, Bool, false, IsTrue, List, ◌++◌, length, get_or, Option, Some, inl, inr, refl, sym, ap, subst, ◌∙◌, arith, add-one, append_assoc}
use Rattle.std.proofs.lemmas.Bool.{cases_lt, false≢true}
use Rattle.streams.specs.declared.frames.Mark.{Mark}
use Rattle.streams.specs.declared.source.SourceEnd.{SourceEnd}
use Rattle.streams.specs.Sink.{IsInTransit}
use Rattle.streams.specs.declared.frames.Form.{Form}
use Rattle.collector.specs.FormLines.{preamble_in, lines_in, end_in}
use Rattle.file_order.specs.declared.chunks.Waiting.{Waiting}
use Rattle.collector.specs.Came.{Came, HasMark}
use Rattle.file_order.specs.FileOrder.{HasEnd, OrderModel}
use Rattle.file_order.specs.Waits.{ChangesAt, IsTaken}
use Rattle.collector.specs.Written.{begun, last_in, ended, ended_texts, IsCounted, AreWritten}
use Rattle.file_order.specs.Writing.{GoesOn}
use Rattle.file_order.proofs.Waits.{after_change, some_waiting}

-- The texts of the files before the current file are in transit, and nothing of the current file: what has arrived of
-- it is still buffered, as is what has arrived of the files after it.
pub record AreRemaining (form : Form) (start now : Option (List ℕ)) (buffer : List ℕ) (current : ℕ) (waiting : List Waiting) (came : ℕ → Came) : Type 0 where
  pub within : current ≤ length waiting
  pub marked : (file : ℕ) → file < current → HasMark (came file)
  pub counted : (file : ℕ) (other : Waiting) → current ≤ file → file < length waiting → IsCounted (get_or waiting file other) (came file)
  pub lines : (file : ℕ) (other : Waiting) → current ≤ file → file < length waiting
      → (get_or waiting file other).lines ≡ lines_in form (came file).entries
  pub text : IsInTransit start now buffer (ended_texts form came current)

-- where a test says that there is no file more
pub no_more : (more : Bool) (m n : ℕ) → more ≡ false → (IsTrue more ↔ (m < n)) → n ≤ m
no_more more m n is says =
    elim (cases_lt m n) [
      | inl lt ↦ absurd (false≢true (sym is ∙ says.1 lt))
      | inr past ↦ past
    ]

texts-next : (form : Form) (came : ℕ → Came) (n : ℕ) → ended_texts form came (n + 1) ≡ ended_texts form came n ++ ended form n (came n)
texts-next form came n = subst (λ m. ended_texts form came m ≡ ended_texts form came n ++ ended form n (came n)) (sym (add-one n)) refl

-- where the current file has this mark, the files up to it have ended
pub marked_next : (came : ℕ → Came) (current next : ℕ) (mark : Mark) → next ≡ current + 1 → (came current).mark ≡ Some mark → ((k : ℕ) → k < current → HasMark (came k)) → (k : ℕ) → k < next → HasMark (came k)
marked_next came current next mark next_is is was k below =
    elim (cases_lt k current) [
      | inl lt ↦ was k lt
      | inr from ↦
          let same : current ≡ k = omega (arith, from, below, next_is) in
          subst (λ j. HasMark (came j)) same (mark, is)
    ]

-- what waits of the current file tells its mark and how many entries it has
pub current_told : (form : Form) (start now : Option (List ℕ)) (buffer : List ℕ) (current : ℕ) (waiting : List Waiting) (came : ℕ → Came) (end : SourceEnd)
    → current < length waiting → ((other : Waiting) → HasEnd end (get_or waiting current other))
    → AreWritten form start now buffer current waiting came → ((came current).mark ≡ Some end.mark) × (end.count ≡ length (came current).entries)
current_told form start now buffer current waiting came end below ended was =
    let other = some_waiting waiting current below in
    let here = was.counted current other (omega arith) below in
    (sym here.mark ∙ (ended other).mark, sym (ended other).count ∙ here.count)

-- the text so far, with the last line of the current file
pub ended_more : (form : Form) (current next : ℕ) (came : ℕ → Came) (mark : Mark) (count : ℕ) → next ≡ current + 1 → (came current).mark ≡ Some mark → count ≡ length (came current).entries
    → (ended_texts form came current ++ begun form current (came current)) ++ end_in form (current + 1) mark count ≡ ended_texts form came next
ended_more form current next came mark count next_is mark_is counted =
    let T = ended_texts form came current in
    let B = begun form current (came current) in
    append_assoc T B (end_in form (current + 1) mark count)
    ∙ ap (λ l. T ++ (B ++ l)) (ap (λ n. end_in form (current + 1) mark n) counted ∙ ap (λ m. last_in form (current + 1) m (length (came current).entries)) (sym mark_is))
    ∙ sym (texts-next form came current) ∙ ap (ended_texts form came) (sym next_is)

-- the last line of the current file went on its way
pub left_ended : (form : Form) (start old new : Option (List ℕ)) (buffer buffered : List ℕ) (current : ℕ) (waiting : List Waiting) (came : ℕ → Came) (end : SourceEnd)
    → current < length waiting → ((other : Waiting) → HasEnd end (get_or waiting current other))
    → GoesOn old buffer new buffered (end_in form (current + 1) end.mark end.count)
    → AreWritten form start old buffer current waiting came → AreRemaining form start new buffered (current + 1) waiting came
left_ended form start old new buffer buffered current waiting came end below ended goes was =
    let told = current_told form start old buffer current waiting came end below ended was in
    record {
      within = omega (arith, below);
      marked = marked_next came current (current + 1) end.mark refl told.0 was.marked;
      counted = λ k other from lt. was.counted k other (omega (arith, from)) lt;
      lines = λ k other from lt. was.lines k other (omega (arith, from)) lt;
      text = subst (IsInTransit start new buffered) (ended_more form current (current + 1) came end.mark end.count refl told.0 told.1) (goes start (ended_texts form came current ++ begun form current (came current)) (was.going below));
    }

-- what has come of the current file went on its way
pub written_begun : (form : Form) (start old mid new : Option (List ℕ)) (buffer between buffered : List ℕ) (current : ℕ) (waiting after : List Waiting) (came : ℕ → Came)
    → current < length waiting → GoesOn old buffer mid between (preamble_in form (current + 1))
    → ChangesAt current IsTaken waiting after → ((other : Waiting) → GoesOn mid between new buffered (get_or waiting current other).lines)
    → AreRemaining form start old buffer current waiting came → AreWritten form start new buffered current after came
written_begun form start old mid new buffer between buffered current waiting after came below preamble changed goes was =
    let T = ended_texts form came current in
    let H = preamble_in form (current + 1) in
    let other = some_waiting waiting current below in
    let lines = (get_or waiting current other).lines in
    let same : lines ≡ lines_in form (came current).entries = was.lines current other (omega arith) below in
    let text : (T ++ H) ++ lines ≡ T ++ (H ++ lines_in form (came current).entries) = append_assoc T H lines ∙ ap (λ l. T ++ (H ++ l)) same in
    record {
      within = omega (arith, was.within, changed.count);
      marked = was.marked;
      counted = after_change IsCounted (λ k. current ≤ k) current waiting after came came IsTaken changed (λ _ _. refl) below
          (λ _ w w' c had. record { count = c.count ∙ had.count; mark = c.mark ∙ had.mark }) was.counted;
      lines = after_change (λ w c. w.lines ≡ lines_in form c.entries) (λ k. current < k) current waiting after came came IsTaken changed (λ _ _. refl) below
          (λ lt. absurd (omega (arith, lt))) (λ k o from lt. was.lines k o (omega (arith, from)) lt);
      going = λ _. subst (IsInTransit start new buffered) text (goes other start (T ++ H) (preamble start T was.text));
      over = λ past. absurd (omega (arith, past, changed.count, below));
    }

-- after its last line the next file is current
pub left_file : (form : Form) (start old new : Option (List ℕ)) (before between next : OrderModel) (came : ℕ → Came) (end : SourceEnd)
    → before.current < length before.waiting → ((other : Waiting) → HasEnd end (get_or before.waiting before.current other))
    → GoesOn old before.buffer new between.buffer (end_in form (before.current + 1) end.mark end.count)
    → between ≡ record before { buffer = between.buffer } → next ≡ record between { current = between.current + 1 }
    → AreWritten form start old before.buffer before.current before.waiting came → AreRemaining form start new next.buffer next.current next.waiting came
left_file form start old new before between next came end below ended goes same went was =
    let at : ℕ → List Waiting → OrderModel = λ current waiting. record { buffer = between.buffer; current = current; waiting = waiting } in
    let both : next ≡ at (before.current + 1) before.waiting = went ∙ ap (λ (o : OrderModel). at (o.current + 1) o.waiting) same in
    subst (λ (o : OrderModel). AreRemaining form start new o.buffer o.current o.waiting came) (sym both)
    (left_ended form start old new before.buffer between.buffer before.current before.waiting came end below ended goes was)

-- its first line went on its way, and then what has come of it
pub begun_file : (form : Form) (start old mid new : Option (List ℕ)) (here between after : OrderModel) (came : ℕ → Came)
    → here.current < length here.waiting → GoesOn old here.buffer mid between.buffer (preamble_in form (here.current + 1)) → between ≡ record here { buffer = between.buffer }
    → ChangesAt between.current IsTaken between.waiting after.waiting → ((other : Waiting) → GoesOn mid between.buffer new after.buffer (get_or between.waiting between.current other).lines)
    → after.current ≡ between.current
    → AreRemaining form start old here.buffer here.current here.waiting came → AreWritten form start new after.buffer after.current after.waiting came
begun_file form start old mid new here between after came below preamble same changed goes current was =
    subst (λ n. AreWritten form start new after.buffer n after.waiting came) (sym (current ∙ ap (λ (o : OrderModel). o.current) same))
    (written_begun form start old mid new here.buffer between.buffer after.buffer here.current here.waiting after.waiting came below preamble
    (subst (λ (o : OrderModel). ChangesAt o.current IsTaken o.waiting after.waiting) same changed)
    (subst (λ (o : OrderModel). (other : Waiting) → GoesOn mid between.buffer new after.buffer (get_or o.waiting o.current other).lines) same goes) was)

-- there is no file more
pub written_over : (form : Form) (start now : Option (List ℕ)) (buffer : List ℕ) (current : ℕ) (waiting : List Waiting) (came : ℕ → Came) → length waiting ≤ current
    → AreRemaining form start now buffer current waiting came → AreWritten form start now buffer current waiting came
written_over form start now buffer current waiting came past was = record {
  within = was.within;
  marked = was.marked;
  counted = was.counted;
  lines = λ k other from lt. absurd (omega (arith, from, lt, past));
  going = λ below. absurd (omega (arith, below, past));
  over = λ _. was.text;
}
