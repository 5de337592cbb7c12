-- What was added to a sink where the text was left off.
use Rattle.std.proofs.Common.{◌≡◌, ℕ, ◌+◌, ◌<◌, ◌≤◌, List, [], ◌++◌, length, Option, inl, inr, refl, sym, ap, subst, ◌∙◌, arith, append_assoc, append-nil, get_or, ◌⊎◌, if◌then◌else◌}
use Rattle.std.proofs.lemmas.Bool.{cases_lt, cases_eq, eq-eqb, ne_eqb}
use Rattle.streams.specs.Sink.{AppendsPrefix, IsInTransit}
use Rattle.streams.specs.FrameLines.{added_both}
use Rattle.reports.specs.declared.answer.Entry.{Entry}
use Rattle.streams.specs.declared.frames.Form.{Form}
use Rattle.collector.specs.FormLines.{line_in, preamble_in, lines_in, end_in}
use Rattle.streams.specs.declared.source.SourceEnd.{SourceEnd}
use Rattle.file_order.specs.declared.chunks.Waiting.{Waiting}
use Rattle.collector.specs.Came.{Came, HasMark, HasEntryMore}
use Rattle.collector.specs.Written.{begun, ended_texts, AreWritten, IsPartialText}
use Rattle.file_order.specs.FileOrder.{HasEnd, OrderModel, at_once}
use Rattle.file_order.specs.Writing.{GoesOn, IsPartlyAdded}
use Rattle.file_order.proofs.Waits.{some_waiting}
use Rattle.file_order.proofs.Prefixes.{appends_longer, way_front}
use Rattle.collector.proofs.Adding.{current_more}
use Rattle.collector.proofs.Moving.{AreRemaining, marked_next, current_told, ended_more}

-- of the files below this one all was on its way, and they have ended
pub partial_at : (form : Form) (start now : Option (List ℕ)) (came : ℕ → Came) (n files : ℕ) → n ≤ files → ((k : ℕ) → k < n → HasMark (came k))
    → AppendsPrefix start now (ended_texts form came n) → IsPartialText form start now files came
partial_at form start now came n files within marked added = record { current = n; within = within; marked = marked; text = inl added }

-- and of this one its first line and its lines so far
pub partial_in : (form : Form) (start now : Option (List ℕ)) (came : ℕ → Came) (n files : ℕ) → n < files → ((k : ℕ) → k < n → HasMark (came k))
    → AppendsPrefix start now (ended_texts form came n ++ begun form n (came n)) → IsPartialText form start now files came
partial_in form start now came n files below marked added = record { current = n; within = omega (arith, below); marked = marked; text = inr (below, added) }

-- or its first line alone
pub partial_preamble : (form : Form) (start now : Option (List ℕ)) (came : ℕ → Came) (n files : ℕ) → n < files → ((k : ℕ) → k < n → HasMark (came k))
    → AppendsPrefix start now (ended_texts form came n ++ preamble_in form (n + 1)) → IsPartialText form start now files came
partial_preamble form start now came n files below marked added =
    partial_in form start now came n files below marked
    (appends_longer start now (ended_texts form came n ++ begun form n (came n)) (ended_texts form came n ++ preamble_in form (n + 1))
    (lines_in form (came n).entries, sym (append_assoc (ended_texts form came n) (preamble_in form (n + 1)) (lines_in form (came n).entries))) added)

-- where a beginning was added of what was on its way
partial_way : (form : Form) (start now new : Option (List ℕ)) (buffer : List ℕ) (current : ℕ) (waiting : List Waiting) (came : ℕ → Came)
    → ((text : List ℕ) → IsInTransit start now buffer text → AppendsPrefix start new text)
    → AreWritten form start now buffer current waiting came → IsPartialText form start new (length waiting) came
partial_way form start now new buffer current waiting came added was =
    elim (cases_lt current (length waiting)) [
      | inl below ↦ partial_in form start new came current (length waiting) below was.marked (added _ (was.going below))
      | inr past ↦ partial_at form start new came current (length waiting) was.within was.marked (added _ (was.over past))
    ]

-- where nothing more was put on its way
pub partial_written : (form : Form) (start now : Option (List ℕ)) (buffer : List ℕ) (current : ℕ) (waiting : List Waiting) (came : ℕ → Came)
    → AreWritten form start now buffer current waiting came → IsPartialText form start now (length waiting) came
partial_written form start now buffer current waiting came was = partial_way form start now now buffer current waiting came (way_front start now buffer) was

-- where what was buffered was to be put
pub partial_flushed : (form : Form) (start now new : Option (List ℕ)) (buffer : List ℕ) (current : ℕ) (waiting : List Waiting) (came : ℕ → Came)
    → AppendsPrefix now new buffer → AreWritten form start now buffer current waiting came → IsPartialText form start new (length waiting) came
partial_flushed form start now new buffer current waiting came put was =
    partial_way form start now new buffer current waiting came
    (λ text way. (way.sent ++ put.0, put.1, way.split ∙ ap (λ l. way.sent ++ l) put.2 ∙ sym (append_assoc way.sent put.0 put.1), added_both start now new way.sent put.0 way.added put.3)) was

-- where a line of the current file was to go on its way
partial_line : (form : Form) (start old new : Option (List ℕ)) (buffer : List ℕ) (current : ℕ) (waiting : List Waiting) (came next : ℕ → Came) (entry : Entry) (line : List ℕ)
    → current < length waiting → line_in form entry ≡ line → HasEntryMore current entry came next → IsPartlyAdded old buffer new line
    → AreWritten form start old buffer current waiting came → IsPartialText form start new (length waiting) next
partial_line form start old new buffer current waiting came next entry line below is more breaks was =
    partial_in form start new next current (length waiting) below (λ k lt. subst HasMark (sym (more.others k (λ e. absurd (omega (arith, lt, e))))) (was.marked k lt))
    (subst (AppendsPrefix start new) (current_more form current came next entry line is more) (breaks start _ (was.going below)))

-- or a line of one file or another
pub partial_more : (form : Form) (start old new : Option (List ℕ)) (before : OrderModel) (file : ℕ) (came next : ℕ → Came) (entry : Entry) (line : List ℕ)
    → file < length before.waiting → line_in form entry ≡ line → HasEntryMore file entry came next
    → IsPartlyAdded old before.buffer new (at_once before.current file line)
    → AreWritten form start old before.buffer before.current before.waiting came
    → IsPartialText form start new (length before.waiting) came ⊎ IsPartialText form start new (length before.waiting) next
partial_more form start old new before file came next entry line below is more breaks was =
    elim (cases_eq file before.current) [
      | inl here ↦
          inr (partial_line form start old new before.buffer before.current before.waiting came next entry line (omega (arith, below, here)) is
          (subst (λ f. HasEntryMore f entry came next) here more)
          (subst (λ b. IsPartlyAdded old before.buffer new (if b then line else [])) (eq-eqb file before.current here) breaks) was)
      | inr apart ↦
          let none : IsPartlyAdded old before.buffer new [] = subst (λ b. IsPartlyAdded old before.buffer new (if b then line else [])) (ne_eqb file before.current apart) breaks in
          inl (partial_way form start old new before.buffer before.current before.waiting came
          (λ text way. subst (AppendsPrefix start new) (append-nil text) (none start text way)) was)
    ]

-- where the last line of the current file was
pub partial_end : (form : Form) (start old new : Option (List ℕ)) (buffer : List ℕ) (current : ℕ) (waiting : List Waiting) (came : ℕ → Came) (end : SourceEnd)
    → current < length waiting → ((other : Waiting) → HasEnd end (get_or waiting current other)) → IsPartlyAdded old buffer new (end_in form (current + 1) end.mark end.count)
    → AreWritten form start old buffer current waiting came → IsPartialText form start new (length waiting) came
partial_end form start old new buffer current waiting came end below ended breaks was =
    let told = current_told form start old buffer current waiting came end below ended was in
    partial_at form start new came (current + 1) (length waiting) (omega (arith, below)) (marked_next came current (current + 1) end.mark refl told.0 was.marked)
    (subst (AppendsPrefix start new) (ended_more form current (current + 1) came end.mark end.count refl told.0 told.1) (breaks start _ (was.going below)))

-- or went on its way, and nothing more
pub partial_remaining : (form : Form) (start now : Option (List ℕ)) (buffer : List ℕ) (current : ℕ) (waiting : List Waiting) (came : ℕ → Came)
    → AreRemaining form start now buffer current waiting came → IsPartialText form start now (length waiting) came
partial_remaining form start now buffer current waiting came was =
    partial_at form start now came current (length waiting) was.within was.marked (way_front start now buffer _ was.text)

-- where the first line of the current file was, or its lines so far
pub partial_first : (form : Form) (start old new : Option (List ℕ)) (buffer : List ℕ) (current : ℕ) (waiting : List Waiting) (came : ℕ → Came)
    → current < length waiting → IsPartlyAdded old buffer new (preamble_in form (current + 1))
    → AreRemaining form start old buffer current waiting came → IsPartialText form start new (length waiting) came
partial_first form start old new buffer current waiting came below breaks was =
    partial_preamble form start new came current (length waiting) below was.marked (breaks start _ was.text)

partial_lines : (form : Form) (start old mid new : Option (List ℕ)) (buffer between : List ℕ) (current : ℕ) (waiting : List Waiting) (came : ℕ → Came)
    → current < length waiting → GoesOn old buffer mid between (preamble_in form (current + 1)) → ((other : Waiting) → IsPartlyAdded mid between new (get_or waiting current other).lines)
    → AreRemaining form start old buffer current waiting came → IsPartialText form start new (length waiting) came
partial_lines form start old mid new buffer between current waiting came below preamble breaks was =
    let T = ended_texts form came current in
    let H = preamble_in form (current + 1) in
    let other = some_waiting waiting current below in
    let lines = (get_or waiting current other).lines in
    let same : lines ≡ lines_in form (came current).entries = was.lines current other (omega arith) below in
    let text : (T ++ H) ++ lines ≡ T ++ (H ++ lines_in form (came current).entries) = append_assoc T H lines ∙ ap (λ l. T ++ (H ++ l)) same in
    partial_in form start new came current (length waiting) below was.marked (subst (AppendsPrefix start new) text (breaks other start (T ++ H) (preamble start T was.text)))

-- or what has come of it, after its first line
pub partial_file : (form : Form) (start old mid new : Option (List ℕ)) (here between : OrderModel) (came : ℕ → Came)
    → here.current < length here.waiting → GoesOn old here.buffer mid between.buffer (preamble_in form (here.current + 1)) → between ≡ record here { buffer = between.buffer }
    → ((other : Waiting) → IsPartlyAdded mid between.buffer new (get_or between.waiting between.current other).lines)
    → AreRemaining form start old here.buffer here.current here.waiting came → IsPartialText form start new (length here.waiting) came
partial_file form start old mid new here between came below preamble same breaks was =
    partial_lines form start old mid new here.buffer between.buffer here.current here.waiting came below preamble
    (subst (λ (o : OrderModel). (other : Waiting) → IsPartlyAdded mid between.buffer new (get_or o.waiting o.current other).lines) same breaks) was

-- the same form and as many files
pub partial_as : (form now_form : Form) (start now : Option (List ℕ)) (files now_files : ℕ) (came : ℕ → Came) → now_form ≡ form → now_files ≡ files
    → IsPartialText now_form start now now_files came → IsPartialText form start now files came
partial_as form now_form start now files now_files came same_form same_files breaks =
    subst (λ n. IsPartialText form start now n came) same_files (subst (λ f. IsPartialText f start now now_files came) same_form breaks)
