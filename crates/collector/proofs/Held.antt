-- What lines hold after one message more.
use Rattle.std.proofs.Common.{◌≡◌, ◌≢◌, ◌↔◌, ◌⊎◌, ℕ, ◌+◌, ◌<◌, ◌≤◌, lit<, Bool, true, List, [], ◌∷◌, ◌++◌, length, get_or, Option, None, All, inl, inr, refl, sym, ap, subst, ◌∙◌, arith, decimal, codes, length-append, append-nil}
use Rattle.std.proofs.lemmas.Bool.{cases_eq}
use Rattle.std.proofs.lemmas.Fmt.{length-decimal-le}
use Rattle.std.proofs.lemmas.List.Elements.{All-nil}
use Rattle.std.proofs.lemmas.Grind.{merely}
use Rattle.common.specs.declared.parameters.Choice.{Choice}
use Rattle.planar_code.specs.declared.partial_record.Ending.{Ending}
use Rattle.streams.specs.declared.frames.Mark.{Mark}
use Rattle.lanes.specs.Notes.{Note, Item, End}
use Rattle.lanes.specs.Opening.{Meaning, IsEndAt}
use Rattle.reports.specs.declared.answer.Answer.{Answer}
use Rattle.reports.specs.declared.answer.Entry.{Entry}
use Rattle.reports.specs.Abouts.{about_of}
use Rattle.streams.specs.declared.frames.Form.{Form}
use Rattle.streams.specs.declared.frames.Form.TheVariants.{Report, Json}
use Rattle.collector.specs.FormLines.{preamble_in}
use Rattle.file_order.specs.declared.chunks.Waiting.{Waiting}
use Rattle.file_order.specs.FileOrder.{OrderModel}
use Rattle.collector.specs.declared.texts.Lines.{Lines}
use Rattle.collector.specs.Came.{Came, HasEntryMore, HasMarkMore, IsFlawlessSoFar, nothing}
use Rattle.file_order.specs.Waits.{IsNothing}
use Rattle.collector.specs.Orders.{IsKnownAt, IsInOrder}
use Rattle.file_order.specs.Waits.{IsNext}
use Rattle.answers.specs.Spelt.{IsSpelt}
use Rattle.collector.proofs.Ordering.{order_none, order_item, order_end, order_but}
use Rattle.collector.proofs.Partial.{partial_written, partial_flushed}
use Rattle.collector.specs.Holding.{HoldsNotes, LinesHold, LinesWrite, ArePartialNotes, ArePartialLines, ArePartialLinesAt, AreLinesOf}
use Rattle.collector.specs.Written.{IsPartialText}
use Rattle.std.specs.Io.KnownBytes.{Appends}
use Rattle.streams.specs.Sink.{AppendsPrefix, IsInTransit}
use Rattle.streams.specs.FrameLines.{added_both}
use Rattle.collector.proofs.Notes.{entry_more, has_entry_more, ended_now, has_mark_more, all_told_item, all_told_end}
use Rattle.collector.proofs.FlawlessBooks.{flawless_end}
use Rattle.collector.proofs.Adding.{written_none}
use Rattle.file_order.proofs.Waits.{some_waiting}

-- whether all is flawless, of as many files
as_many : (before after : ℕ) (flawless : Bool) (came : ℕ → Came) → after ≡ before → ((flawless ≡ true) ↔ ((k : ℕ) → k < before → IsFlawlessSoFar (came k)))
    → ((flawless ≡ true) ↔ ((k : ℕ) → k < after → IsFlawlessSoFar (came k)))
as_many before after flawless came same was = subst (λ n. (flawless ≡ true) ↔ ((k : ℕ) → k < n → IsFlawlessSoFar (came k))) (sym same) was

same_mark : (file : ℕ) (entry : Entry) (came next : ℕ → Came) → HasEntryMore file entry came next → (k : ℕ) → (next k).mark ≡ (came k).mark
same_mark file entry came next more k =
    elim (cases_eq k file) [
      | inl same ↦ ap (λ j. (next j).mark) same ∙ ap (λ (c : Came). c.mark) more.here ∙ ap (λ j. (came j).mark) (sym same)
      | inr apart ↦ ap (λ (c : Came). c.mark) (more.others k apart)
    ]

-- what is known of an entry that comes next in its file
pub record ComesNext (choice : Choice) (meaning : Meaning) (file : ℕ) (waiting : List Waiting) (entry : Entry) : Type 0 where
  pub file_is : entry.file ≡ file
  pub choice_is : entry.choice ≡ choice
  pub spelt : IsSpelt entry.rec
  pub placed : IsKnownAt meaning entry.ordinal entry.rec
  pub next : (other : Waiting) → IsNext entry.ordinal (get_or waiting file other)

pub comes_next : (choice made : Choice) (meaning : Meaning) (file ordinal : ℕ) (waiting : List Waiting) (entry : Entry) → entry.file ≡ file → entry.ordinal ≡ ordinal → entry.choice ≡ made → made ≡ choice
    → IsSpelt entry.rec → IsKnownAt meaning ordinal entry.rec → ((other : Waiting) → IsNext ordinal (get_or waiting file other)) → ComesNext choice meaning file waiting entry
comes_next choice made meaning file ordinal waiting entry file_is ordinal_is made_is choice_is spelt placed next = record {
  file_is = file_is;
  choice_is = made_is ∙ choice_is;
  spelt = spelt;
  placed = subst (λ n. IsKnownAt meaning n entry.rec) (sym ordinal_is) placed;
  next = subst (λ n. (other : Waiting) → IsNext n (get_or waiting file other)) (sym ordinal_is) next;
}

-- with it, all that has come is in order
ordered_item : (meaning : ℕ → Meaning) (start now : Option (List ℕ)) (lines : Lines) (ns : List Note) (file : ℕ) (entry : Entry) (next : ℕ → Came) → file < length lines.order.waiting → lines.order.current ≤ file
    → ComesNext lines.choice (meaning file) file lines.order.waiting entry → (held : LinesHold meaning start now lines ns) → HasEntryMore file entry held.came next
    → (k : ℕ) → k < length lines.order.waiting → IsInOrder lines.choice (meaning k) k (next k)
ordered_item meaning start now lines ns file entry next below from comes held more =
    let other = some_waiting lines.order.waiting file below in
    let counted = held.written.counted file other from below in
    let at = comes.next other in
    let here = order_item lines.choice (meaning file) file (held.came file) entry (sym counted.mark ∙ at.unmarked) comes.file_is (sym at.count ∙ counted.count) comes.choice_is comes.spelt comes.placed
    (omega (arith, counted.count, at.count, at.few)) (held.ordered file below) in
    order_but lines.choice meaning (length lines.order.waiting) file held.came next more.others (subst (IsInOrder lines.choice (meaning file) file) (sym more.here) here) held.ordered

-- of as many files, under the same choice
ordered_as : (meaning : ℕ → Meaning) (before after : Lines) (came : ℕ → Came) → AreLinesOf before after → ((k : ℕ) → k < length before.order.waiting → IsInOrder before.choice (meaning k) k (came k))
    → (k : ℕ) → k < length after.order.waiting → IsInOrder after.choice (meaning k) k (came k)
ordered_as meaning before after came same was k below = subst (λ c. IsInOrder c (meaning k) k (came k)) (sym same.choice) (was k (omega (arith, below, same.files)))

-- one entry more
pub held_item : (meaning : ℕ → Meaning) (start old new : Option (List ℕ)) (before after : Lines) (ns : List Note) (file : ℕ) (entry : Entry) → AreLinesOf before after → after.order.current ≡ before.order.current
    → file < length before.order.waiting → before.order.current ≤ file → ComesNext before.choice (meaning file) file before.order.waiting entry
    → ((came next : ℕ → Came) → HasEntryMore file entry came next → LinesWrite start old before came → LinesWrite start new after next)
    → ((came next : ℕ → Came) → HasEntryMore file entry came next → ((before.flawless ≡ true) ↔ ((k : ℕ) → k < length before.order.waiting → IsFlawlessSoFar (came k)))
    → ((after.flawless ≡ true) ↔ ((k : ℕ) → k < length before.order.waiting → IsFlawlessSoFar (next k))))
    → LinesHold meaning start old before ns → LinesHold meaning start new after (ns ++ Item (about_of entry) ∷ [])
held_item meaning start old new before after ns file entry same current below from comes writes wholes held =
    let next = entry_more file entry held.came in
    let more = has_entry_more file entry held.came in
    record {
      came = next;
      told = λ k lt. all_told_item (length before.order.waiting) ns file entry held.came next comes.file_is more held.told k (omega (arith, lt, same.files));
      ordered = ordered_as meaning before after next same (ordered_item meaning start old before ns file entry next below from comes held more);
      written = writes held.came next more held.written;
      unended = λ lt.
          let was : (held.came before.order.current).mark ≡ None = held.unended (omega (arith, lt, same.files, current)) in
          same_mark file entry held.came next more after.order.current ∙ ap (λ k. (held.came k).mark) current ∙ was;
      all_flawless = as_many (length before.order.waiting) (length after.order.waiting) after.flawless next same.files (wholes held.came next more held.all_flawless);
    }

-- an entry like this one, without an answer
abbrev pub lacking : Entry → Entry
lacking entry = record { file = entry.file; ordinal = entry.ordinal; rec = entry.rec; choice = entry.choice; answer = Answer.NoMemory; answers = merely tt }

-- with a mark that the file may have, all that has come is in order
ordered_end : (meaning : ℕ → Meaning) (start now : Option (List ℕ)) (lines : Lines) (ns : List Note) (file : ℕ) (mark : Mark) (next : ℕ → Came) → file < length lines.order.waiting → lines.order.current ≤ file
    → ((other : Waiting) → ∥ IsEndAt (meaning file) (get_or lines.order.waiting file other).count mark ∥₁) → (held : LinesHold meaning start now lines ns) → HasMarkMore file mark held.came next
    → (k : ℕ) → k < length lines.order.waiting → IsInOrder lines.choice (meaning k) k (next k)
ordered_end meaning start now lines ns file mark next below from ends held more =
    let other = some_waiting lines.order.waiting file below in
    let counted = held.written.counted file other from below in
    let known = subst (λ n. ∥ IsEndAt (meaning file) n mark ∥₁) counted.count (ends other) in
    order_but lines.choice meaning (length lines.order.waiting) file held.came next more.others
    (subst (IsInOrder lines.choice (meaning file) file) (sym more.here) (order_end lines.choice (meaning file) file (held.came file) mark known (held.ordered file below))) held.ordered

-- one mark more: it is kept first, and then the current file moves on
pub held_end : (meaning : ℕ → Meaning) (start old new : Option (List ℕ)) (before mid after : Lines) (ns : List Note) (file : ℕ) (mark : Mark) → AreLinesOf mid after → AreLinesOf before mid
    → file < length before.order.waiting
    → ((other : Waiting) → (get_or before.order.waiting file other).mark ≡ None)
    → ((other : Waiting) → ∥ IsEndAt (meaning file) (get_or before.order.waiting file other).count mark ∥₁) → before.order.current ≤ file
    → ((mid.flawless ≡ true) ↔ ((before.flawless ≡ true) × (mark ≡ Mark.Ended Ending.Complete))) → after.flawless ≡ mid.flawless
    → ((came next : ℕ → Came) → HasMarkMore file mark came next → LinesWrite start old before came → LinesWrite start old mid next)
    → ((came : ℕ → Came) → LinesWrite start old mid came → LinesWrite start new after came)
    → ((other : Waiting) → after.order.current < length after.order.waiting → (get_or after.order.waiting after.order.current other).mark ≡ None)
    → LinesHold meaning start old before ns → LinesHold meaning start new after (ns ++ End file mark ∷ [])
held_end meaning start old new before mid after ns file mark went kept below unmarked ends from says flawless keeps moves unended held =
    let next = ended_now file mark held.came in
    let more = has_mark_more file mark held.came in
    let count : length after.order.waiting ≡ length before.order.waiting = went.files ∙ kept.files in
    let written = moves next (keeps held.came next more held.written) in
    let other = some_waiting before.order.waiting file below in
    let bare : (held.came file).mark ≡ None = sym (held.written.counted file other from below).mark ∙ unmarked other in
    record {
      came = next;
      told = λ k lt. all_told_end (length before.order.waiting) ns file mark held.came next more held.told k (omega (arith, lt, count));
      ordered = ordered_as meaning mid after next went (ordered_as meaning before mid next kept (ordered_end meaning start old before ns file mark next below from ends held more));
      written = written;
      unended = λ lt.
          let w = some_waiting after.order.waiting after.order.current lt in
          sym (written.counted after.order.current w (omega arith) lt).mark ∙ unended w lt;
      all_flawless = as_many (length before.order.waiting) (length after.order.waiting) after.flawless next count
          (subst (λ b. (b ≡ true) ↔ ((k : ℕ) → k < length before.order.waiting → IsFlawlessSoFar (next k))) (sym flawless)
          (flawless_end (length before.order.waiting) file mark held.came next before.flawless mid.flawless below bare says more held.all_flawless));
    }

-- nothing is told
pub held_none : (choice : Choice) (meaning : ℕ → Meaning) (form : Form) (start : Option (List ℕ)) (buffer : List ℕ) (waiting : List Waiting) → All IsNothing waiting
    → (0 < length waiting → buffer ≡ preamble_in form (0 + 1)) → (length waiting ≤ 0 → buffer ≡ []) → HoldsNotes choice meaning form start start buffer 0 waiting true []
held_none choice meaning form start buffer waiting all some none = record {
  came = λ _. nothing;
  told = λ k below. record { entries = refl; mark = refl };
  ordered = λ k below. order_none choice (meaning k) k;
  written = written_none form start buffer waiting all some none;
  unended = λ _. refl;
  all_flawless = (
    λ _ k below. record { answered = All-nil (λ (entry : Entry). entry.answer ≢ Answer.NoMemory); complete = λ mark e. absurd (let no : ⊥ = cc in no) },
    λ _. refl,
  );
}

-- the first line of the first file is short
pub preamble_short : (form : Form) → length (preamble_in form (0 + 1)) ≤ 100
preamble_short Report =
    let short : length (decimal 1) ≤ 20 = length-decimal-le 20 1 (omega arith) (lit< tt) (lit< tt) in
    omega (arith, short, length-append (codes "file " ++ decimal 1) (codes "\n"), length-append (codes "file ") (decimal 1))
preamble_short Json = omega arith

-- what is held is left off as it is
pub left_off_held : (meaning : ℕ → Meaning) (start now : Option (List ℕ)) (lines : Lines) (ns : List Note) → LinesHold meaning start now lines ns → ArePartialLines meaning start now lines ns
left_off_held meaning start now lines ns held = record {
  came = held.came;
  told = held.told;
  ordered = held.ordered;
  text = partial_written lines.form start now lines.order.buffer lines.order.current lines.order.waiting held.came held.written;
}

-- of the same lines later
pub left_off_as : (meaning : ℕ → Meaning) (start now : Option (List ℕ)) (before after : Lines) (ns : List Note) → AreLinesOf before after → ArePartialLines meaning start now before ns → ArePartialLines meaning start now after ns
left_off_as meaning start now before after ns same was =
    subst (λ n. ArePartialNotes after.choice meaning after.form n start now ns) (sym same.files)
    (subst (λ f. ArePartialNotes after.choice meaning f (length before.order.waiting) start now ns) (sym same.form)
    (subst (λ c. ArePartialNotes c meaning before.form (length before.order.waiting) start now ns) (sym same.choice) was))

-- where one entry more was to be added
pub left_off_item : (meaning : ℕ → Meaning) (start old new : Option (List ℕ)) (before after : Lines) (ns : List Note) (file : ℕ) (entry : Entry) → AreLinesOf before after
    → file < length before.order.waiting → before.order.current ≤ file → ComesNext before.choice (meaning file) file before.order.waiting entry
    → ((came next : ℕ → Came) → HasEntryMore file entry came next → LinesWrite start old before came
    → IsPartialText before.form start new (length before.order.waiting) came ⊎ IsPartialText before.form start new (length before.order.waiting) next)
    → LinesHold meaning start old before ns → ArePartialLinesAt meaning start new after ns (Item (about_of entry))
left_off_item meaning start old new before after ns file entry same below from comes breaks held =
    let next = entry_more file entry held.came in
    let more = has_entry_more file entry held.came in
    elim (breaks held.came next more held.written) [
      | inl text ↦ inl (left_off_as meaning start new before after ns same (record { came = held.came; told = held.told; ordered = held.ordered; text = text }))
      | inr text ↦ inr (left_off_as meaning start new before after (ns ++ Item (about_of entry) ∷ []) same (record {
        came = next;
        told = all_told_item (length before.order.waiting) ns file entry held.came next comes.file_is more held.told;
        ordered = ordered_item meaning start old before ns file entry next below from comes held more;
        text = text;
      }))
    ]

-- where the current file was to move on after one mark more
pub left_off_end : (meaning : ℕ → Meaning) (start old new : Option (List ℕ)) (before mid after : Lines) (ns : List Note) (file : ℕ) (mark : Mark) → AreLinesOf mid after → AreLinesOf before mid
    → file < length before.order.waiting
    → ((other : Waiting) → ∥ IsEndAt (meaning file) (get_or before.order.waiting file other).count mark ∥₁) → before.order.current ≤ file
    → ((came next : ℕ → Came) → HasMarkMore file mark came next → LinesWrite start old before came → LinesWrite start old mid next)
    → ((came : ℕ → Came) → LinesWrite start old mid came → IsPartialText mid.form start new (length mid.order.waiting) came)
    → LinesHold meaning start old before ns → ArePartialLinesAt meaning start new after ns (End file mark)
left_off_end meaning start old new before mid after ns file mark went kept below ends from keeps breaks held =
    let next = ended_now file mark held.came in
    let more = has_mark_more file mark held.came in
    inr (left_off_as meaning start new mid after (ns ++ End file mark ∷ []) went (record {
      came = next;
      told = λ k lt. all_told_end (length before.order.waiting) ns file mark held.came next more held.told k (omega (arith, lt, kept.files));
      ordered = ordered_as meaning before mid next kept (ordered_end meaning start old before ns file mark next below from ends held more);
      text = breaks next (keeps held.came next more held.written);
    }))

-- where what was buffered was to be put
pub left_off_finish : (meaning : ℕ → Meaning) (start old new : Option (List ℕ)) (lines : Lines) (ns : List Note) → AppendsPrefix old new lines.order.buffer → LinesHold meaning start old lines ns → ArePartialLines meaning start new lines ns
left_off_finish meaning start old new lines ns put held = record {
  came = held.came;
  told = held.told;
  ordered = held.ordered;
  text = partial_flushed lines.form start old new lines.order.buffer lines.order.current lines.order.waiting held.came put held.written;
}

-- what was on its way to the sink was put into it
in_transit_put : (start old new : Option (List ℕ)) (buffer text : List ℕ) → Appends old new buffer → IsInTransit start old buffer text → IsInTransit start new [] text
in_transit_put start old new buffer text put way = record {
  sent = way.sent ++ buffer;
  split = way.split ∙ sym (append-nil (way.sent ++ buffer));
  added = added_both start old new way.sent buffer way.added put;
}

held_flushed : (choice : Choice) (meaning : ℕ → Meaning) (form : Form) (start old new : Option (List ℕ)) (buffer : List ℕ) (current : ℕ) (waiting : List Waiting) (flawless : Bool) (ns : List Note)
    → Appends old new buffer → HoldsNotes choice meaning form start old buffer current waiting flawless ns → HoldsNotes choice meaning form start new [] current waiting flawless ns
held_flushed choice meaning form start old new buffer current waiting flawless ns put held =
    let was = held.written in
    record {
      came = held.came;
      told = held.told;
      ordered = held.ordered;
      written = record {
        within = was.within;
        marked = was.marked;
        counted = was.counted;
        lines = was.lines;
        going = λ below. in_transit_put start old new buffer _ put (was.going below);
        over = λ past. in_transit_put start old new buffer _ put (was.over past);
      };
      unended = held.unended;
      all_flawless = held.all_flawless;
    }

-- what was in transit was put into the sink
pub flushed_lines : (meaning : ℕ → Meaning) (start old new : Option (List ℕ)) (lines : Lines) (order : OrderModel) (ns : List Note) → Appends old new lines.order.buffer → order ≡ record lines.order { buffer = [] }
    → LinesHold meaning start old lines ns → LinesHold meaning start new (record lines { order = order }) ns
flushed_lines meaning start old new lines order ns put flushed held =
    subst (λ o. LinesHold meaning start new (record lines { order = o }) ns) (sym flushed)
    (held_flushed lines.choice meaning lines.form start old new lines.order.buffer lines.order.current lines.order.waiting lines.flawless ns put held)

pub left_off_flushed : (meaning : ℕ → Meaning) (start old new : Option (List ℕ)) (lines : Lines) (order : OrderModel) (ns : List Note) → length order.waiting ≡ length lines.order.waiting
    → AppendsPrefix old new lines.order.buffer → LinesHold meaning start old lines ns → ArePartialLines meaning start new (record lines { order = order }) ns
left_off_flushed meaning start old new lines order ns files put held =
    let after : Lines = record lines { order = order } in
    left_off_as meaning start new lines after ns (record { form = refl; choice = refl; files = files }) (left_off_finish meaning start old new lines ns put held)
