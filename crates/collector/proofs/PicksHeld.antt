-- What picks hold after one message more.
use Rattle.std.proofs.Common.{◌≡◌, ◌≢◌, ℕ, ◌+◌, ◌<◌, List, [], ◌∷◌, ◌++◌, length, get_or, Option, None, All, inl, inr, refl, sym, ap, subst, ◌∙◌, arith, append-nil}
use Rattle.std.proofs.lemmas.Bool.{cases_eq}
use Rattle.std.proofs.lemmas.List.{length-map}
use Rattle.std.specs.Io.KnownBytes.{Appends}
use Rattle.planar_code.specs.declared.TheConstants.{HEADER}
use Rattle.streams.specs.declared.frames.Mark.{Mark}
use Rattle.streams.specs.FrameLines.{added_both}
use Rattle.streams.specs.Sink.{AppendsPrefix}
use Rattle.common.specs.declared.parameters.Choice.{Choice}
use Rattle.lanes.specs.Notes.{Note, Item, End}
use Rattle.lanes.specs.Opening.{Meaning, IsEndAt}
use Rattle.answers.specs.Spelt.{IsSpelt}
use Rattle.file_order.specs.declared.chunks.Waiting.{Waiting}
use Rattle.file_order.specs.FileOrder.{OrderModel}
use Rattle.collector.specs.Orders.{IsKnownAt, IsInOrder}
use Rattle.file_order.specs.Waits.{IsNext}
use Rattle.file_order.specs.Waits.{IsNothing}
use Rattle.file_order.proofs.Waits.{some_waiting}
use Rattle.collector.specs.declared.find_facts.Flaws.{Flaws}
use Rattle.collector.specs.declared.picking.Picks.{Picks}
use Rattle.collector.specs.FactBooks.{FactEntry, flaws_of}
use Rattle.collector.specs.Arrived.{Arrived, none_arrived, HasEntryMore, HasEndMore, book_so_far, record_of, records_of, flaws_with}
use Rattle.collector.specs.PicksHolding.{AreArrived, ArePicked, ArePicksOf, IsPartOfPicked, PicksHold, PicksPartly, PicksWrite, files_of}
use Rattle.collector.proofs.Arriving.{ComesNext, entry_more, has_entry_more, end_more, has_end_more, ordered_item, ordered_end, arrived_item, arrived_end, arrived_none}
use Rattle.collector.proofs.PickedText.{part_here, part_flushed, picked_none}

-- of as many files
arrived_as : (before after : Choice) (files now : ℕ) (meaning : ℕ → Meaning) (flaws : List Flaws) (ns : List Note) (came : ℕ → Arrived) → after ≡ before → now ≡ files
    → AreArrived before meaning files flaws ns came → AreArrived after meaning now flaws ns came
arrived_as before after files now meaning flaws ns came choice count was =
    subst (λ c. AreArrived c meaning now flaws ns came) (sym choice) (subst (λ n. AreArrived before meaning n flaws ns came) (sym count) was)

ordered_as : (before after : Choice) (files now : ℕ) (meaning : ℕ → Meaning) (came : ℕ → Arrived) → after ≡ before → now ≡ files
    → ((k : ℕ) → k < files → IsInOrder before (meaning k) k (records_of (came k))) → (k : ℕ) → k < now → IsInOrder after (meaning k) k (records_of (came k))
ordered_as before after files now meaning came choice count was k below = subst (λ c. IsInOrder c (meaning k) k (records_of (came k))) (sym choice) (was k (omega (arith, below, count)))

-- a prefix that was added, of the same picks later
part_as : (meaning : ℕ → Meaning) (start now : Option (List ℕ)) (before after : Picks) (came : ℕ → Arrived) → ArePicksOf before after
    → ((k : ℕ) → k < files_of before → IsInOrder before.choice (meaning k) k (records_of (came k))) → IsPartOfPicked before.selection start now (files_of before) came
    → PicksPartly meaning start now after
part_as meaning start now before after came same ordered part = record {
  arrived = came;
  ordered = ordered_as before.choice after.choice (files_of before) (files_of after) meaning came same.choice same.files ordered;
  text = subst (λ s. IsPartOfPicked s start now (files_of after) came) (sym same.selection) (subst (λ n. IsPartOfPicked before.selection start now n came) (sym same.files) part);
}

-- what is held is left off as it is
pub left_off_held : (meaning : ℕ → Meaning) (start now : Option (List ℕ)) (before after : Picks) (ns : List Note) → ArePicksOf before after → PicksHold meaning start now before ns → PicksPartly meaning start now after
left_off_held meaning start now before after ns same held =
    part_as meaning start now before after held.arrived same held.are.ordered (part_here before.selection start now before.order.buffer before.order.current before.order.waiting held.arrived held.picked)

pub left_off_flushed : (meaning : ℕ → Meaning) (start old new : Option (List ℕ)) (before after : Picks) (ns : List Note) → ArePicksOf before after → AppendsPrefix old new before.order.buffer
    → PicksHold meaning start old before ns → PicksPartly meaning start new after
left_off_flushed meaning start old new before after ns same put held =
    part_as meaning start new before after held.arrived same held.are.ordered
    (part_flushed before.selection start old new before.order.buffer before.order.current before.order.waiting held.arrived put held.picked)

-- what waited in the buffer was put
held_flushed : (meaning : ℕ → Meaning) (start old new : Option (List ℕ)) (picks : Picks) (ns : List Note) → Appends old new picks.order.buffer
    → PicksHold meaning start old picks ns → PicksHold meaning start new (record picks { order = record { buffer = []; current = picks.order.current; waiting = picks.order.waiting } }) ns
held_flushed meaning start old new picks ns put held =
    let way = held.picked.text in
    record {
      arrived = held.arrived;
      are = held.are;
      picked = record {
        within = held.picked.within;
        counted = held.picked.counted;
        lines = held.picked.lines;
        none = held.picked.none;
        text = record {
          sent = way.sent ++ picks.order.buffer;
          split = way.split ∙ sym (append-nil (way.sent ++ picks.order.buffer));
          added = added_both start old new way.sent picks.order.buffer way.added put;
        };
      };
      unended = held.unended;
    }

pub flushed_picks : (meaning : ℕ → Meaning) (start old new : Option (List ℕ)) (picks : Picks) (order : OrderModel) (ns : List Note) → Appends old new picks.order.buffer → order ≡ record picks.order { buffer = [] }
    → PicksHold meaning start old picks ns → PicksHold meaning start new (record picks { order = order }) ns
flushed_picks meaning start old new picks order ns put flushed held =
    subst (λ o. PicksHold meaning start new (record picks { order = o }) ns) (sym flushed) (held_flushed meaning start old new picks ns put held)

-- nothing is told
pub held_none : (meaning : ℕ → Meaning) (start : Option (List ℕ)) (picks : Picks) → picks.order.current ≡ 0 → All IsNothing picks.order.waiting → picks.order.buffer ≡ HEADER
    → length picks.flaws.items ≡ files_of picks → All (λ each. each ≡ flaws_of (book_so_far none_arrived)) picks.flaws.items → PicksHold meaning start start picks []
held_none meaning start picks first all buffer count flaws = record {
  arrived = λ _. none_arrived;
  are = arrived_none picks.choice meaning (files_of picks) picks.flaws.items count flaws;
  picked = subst (λ n. ArePicked picks.selection start start picks.order.buffer n picks.order.waiting (λ _. none_arrived)) (sym first)
      (picked_none picks.selection start picks.order.buffer picks.order.waiting all buffer);
  unended = λ _. refl;
}

-- ---- one record more

-- it comes next in its file
pub comes_next : (meaning : ℕ → Meaning) (start now : Option (List ℕ)) (picks : Picks) (ns : List Note) (file : ℕ) (entry : FactEntry) → entry.about.file ≡ file → entry.about.choice ≡ picks.choice
    → IsSpelt entry.about.bytes → IsKnownAt (meaning file) entry.about.ordinal entry.about.bytes → file < files_of picks
    → ((other : Waiting) → IsNext entry.about.ordinal (get_or picks.order.waiting file other))
    → (held : PicksHold meaning start now picks ns) → ComesNext picks.choice (meaning file) file (held.arrived file) entry
comes_next meaning start now picks ns file entry file_is choice_is spelt placed below next held =
    let other = some_waiting picks.order.waiting file below in
    let counted = held.picked.counted file other below in
    let at = next other in
    let count : length (records_of (held.arrived file)).entries ≡ length (held.arrived file).entries = length-map (held.arrived file).entries record_of in
    record {
      file_is = file_is;
      choice_is = choice_is;
      spelt = spelt;
      placed = placed;
      unmarked = sym counted.mark ∙ at.unmarked;
      place_is = sym at.count ∙ counted.count ∙ count;
      few = omega (arith, counted.count, count, at.count, at.few);
    }

same_mark : (file : ℕ) (entry : FactEntry) (came next : ℕ → Arrived) → HasEntryMore file entry came next → (k : ℕ) → (next k).mark ≡ (came k).mark
same_mark file entry came next more k =
    elim (cases_eq k file) [
      | inl same ↦ ap (λ j. (next j).mark) same ∙ ap (λ (a : Arrived). a.mark) more.here ∙ ap (λ j. (came j).mark) (sym same)
      | inr apart ↦ ap (λ (a : Arrived). a.mark) (more.others k apart)
    ]

pub held_item : (meaning : ℕ → Meaning) (start old new : Option (List ℕ)) (before after : Picks) (ns : List Note) (file : ℕ) (entry : FactEntry) → ArePicksOf before after → after.order.current ≡ before.order.current
    → file < files_of before → length after.flaws.items ≡ length before.flaws.items
    → ((other : Flaws) → get_or after.flaws.items file other ≡ flaws_with (get_or before.flaws.items file other) entry.about.ordinal entry.facts)
    → ((k : ℕ) (other : Flaws) → k ≢ file → get_or after.flaws.items k other ≡ get_or before.flaws.items k other)
    → ((came next : ℕ → Arrived) → HasEntryMore file entry came next → PicksWrite start old before came → PicksWrite start new after next)
    → (held : PicksHold meaning start old before ns) → ComesNext before.choice (meaning file) file (held.arrived file) entry
    → PicksHold meaning start new after (ns ++ Item entry.about ∷ [])
held_item meaning start old new before after ns file entry same current below count here apart writes held comes =
    let next = entry_more file entry held.arrived in
    let more = has_entry_more file entry held.arrived in
    record {
      arrived = next;
      are = arrived_as before.choice after.choice (files_of before) (files_of after) meaning after.flaws.items (ns ++ Item entry.about ∷ []) next same.choice same.files
          (arrived_item before.choice meaning (files_of before) before.flaws.items after.flaws.items ns file entry held.arrived next below count here apart comes more held.are);
      picked = writes held.arrived next more held.picked;
      unended = λ lt.
          let was : (held.arrived before.order.current).mark ≡ None = held.unended (omega (arith, lt, same.files, current)) in
          same_mark file entry held.arrived next more after.order.current ∙ ap (λ k. (held.arrived k).mark) current ∙ was;
    }

pub left_off_item : (meaning : ℕ → Meaning) (start old new : Option (List ℕ)) (before after : Picks) (ns : List Note) (file : ℕ) (entry : FactEntry) → ArePicksOf before after → file < files_of before
    → ((came next : ℕ → Arrived) → HasEntryMore file entry came next → PicksWrite start old before came → IsPartOfPicked before.selection start new (files_of before) next)
    → (held : PicksHold meaning start old before ns) → ComesNext before.choice (meaning file) file (held.arrived file) entry → PicksPartly meaning start new after
left_off_item meaning start old new before after ns file entry same below breaks held comes =
    let next = entry_more file entry held.arrived in
    let more = has_entry_more file entry held.arrived in
    part_as meaning start new before after next same (ordered_item before.choice meaning (files_of before) file entry held.arrived next below comes more held.are.ordered)
    (breaks held.arrived next more held.picked)

-- ---- one mark more

-- it may end its file
pub may_end : (meaning : ℕ → Meaning) (start now : Option (List ℕ)) (picks : Picks) (ns : List Note) (file count : ℕ) (mark : Mark) → file < files_of picks
    → ((other : Waiting) → (get_or picks.order.waiting file other).count ≡ count) → ∥ IsEndAt (meaning file) count mark ∥₁
    → (held : PicksHold meaning start now picks ns) → ∥ IsEndAt (meaning file) (length (held.arrived file).entries) mark ∥₁
may_end meaning start now picks ns file count mark below counts ends held =
    let other = some_waiting picks.order.waiting file below in
    let counted = held.picked.counted file other below in
    let same : count ≡ length (held.arrived file).entries = sym (counts other) ∙ counted.count ∙ length-map (held.arrived file).entries record_of in
    subst (λ n. ∥ IsEndAt (meaning file) n mark ∥₁) same ends

pub held_end : (meaning : ℕ → Meaning) (start old new : Option (List ℕ)) (before after : Picks) (ns : List Note) (file : ℕ) (mark : Mark) → ArePicksOf before after
    → file < files_of before → length after.flaws.items ≡ length before.flaws.items
    → ((other : Flaws) → get_or after.flaws.items file other ≡ record (get_or before.flaws.items file other) { mark = mark })
    → ((k : ℕ) (other : Flaws) → k ≢ file → get_or after.flaws.items k other ≡ get_or before.flaws.items k other)
    → ((came next : ℕ → Arrived) → HasEndMore file mark came next → PicksWrite start old before came → PicksWrite start new after next)
    → ((other : Waiting) → after.order.current < files_of after → (get_or after.order.waiting after.order.current other).mark ≡ None)
    → (held : PicksHold meaning start old before ns) → ∥ IsEndAt (meaning file) (length (held.arrived file).entries) mark ∥₁
    → PicksHold meaning start new after (ns ++ End file mark ∷ [])
held_end meaning start old new before after ns file mark same below count here apart writes unended held ends =
    let next = end_more file mark held.arrived in
    let more = has_end_more file mark held.arrived in
    let picked = writes held.arrived next more held.picked in
    record {
      arrived = next;
      are = arrived_as before.choice after.choice (files_of before) (files_of after) meaning after.flaws.items (ns ++ End file mark ∷ []) next same.choice same.files
          (arrived_end before.choice meaning (files_of before) before.flaws.items after.flaws.items ns file mark held.arrived next below count here apart ends more held.are);
      picked = picked;
      unended = λ lt.
          let w = some_waiting after.order.waiting after.order.current lt in
          sym (picked.counted after.order.current w lt).mark ∙ unended w lt;
    }

pub left_off_end : (meaning : ℕ → Meaning) (start old new : Option (List ℕ)) (before after : Picks) (ns : List Note) (file : ℕ) (mark : Mark) → ArePicksOf before after → file < files_of before
    → ((came next : ℕ → Arrived) → HasEndMore file mark came next → PicksWrite start old before came → IsPartOfPicked before.selection start new (files_of before) next)
    → (held : PicksHold meaning start old before ns) → ∥ IsEndAt (meaning file) (length (held.arrived file).entries) mark ∥₁ → PicksPartly meaning start new after
left_off_end meaning start old new before after ns file mark same below breaks held ends =
    let next = end_more file mark held.arrived in
    let more = has_end_more file mark held.arrived in
    part_as meaning start new before after next same (ordered_end before.choice meaning (files_of before) file mark held.arrived next below ends more held.are.ordered)
    (breaks held.arrived next more held.picked)

-- what is held is left off as it is
pub left_off_here : (meaning : ℕ → Meaning) (start now : Option (List ℕ)) (picks : Picks) (ns : List Note) → PicksHold meaning start now picks ns → PicksPartly meaning start now picks
left_off_here meaning start now picks ns held = left_off_held meaning start now picks picks ns (record { selection = refl; choice = refl; files = refl }) held
