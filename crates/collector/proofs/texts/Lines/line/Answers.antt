use Rattle.std.proofs.Common.{◌≡◌, ◌<◌, ◌↔◌, true, ap, refl, rules, subst, sym, length, ℕ, ◌≤◌, ◌∙◌, inl}
use Rattle.answers.specs.Steps.{answer_in}
use Rattle.collector.specs.Answered.{entry_of}
use Rattle.collector.specs.declared.texts.Lines.{Lines}
use Rattle.collector.specs.Holding.{AreLinesOf}
use Rattle.collector.proofs.Adding.{written_more}
use Rattle.collector.proofs.Partial.{partial_more}
use Rattle.collector.specs.FormLines.{IsLineOf, line_in}
use Rattle.collector.specs.Came.{IsFlawlessSoFar}
use Rattle.collector.proofs.Held.{comes_next, held_item, lacking}
use Rattle.file_order.proofs.SucceedsOrFails.{ok_both}
use Rattle.collector.proofs.FlawlessBooks.{flawless_item, whole_lacking}
use Rattle.collector.proofs.Held.{left_off_held, left_off_item}
use Rattle.file_order.proofs.SucceedsOrFails.{err_then}
use Rattle.collector.proofs.texts.Lines.line.Goals as goal

pub returns-in-Some-clause-held : goal.returns-in-Some-clause-held
returns-in-Some-clause-held g c =
    let entry = entry_of c.args.printed.file c.args.printed.ordinal c.args.printed.rec.value c.args.printed.choice (answer_in c.args.printed.found.value) c.args.printed.answers in
    let file = c.args.printed.file in
    let before = c.args.self.now in
    let order = c.add.new.self in
    let after : Lines = record before { order = order } in
    let same : AreLinesOf before after = record { form = refl; choice = refl; files = c.add.ensures.same.count } in
    let below : file < length before.order.waiting = search rules in
    let form : c.args.printed.form ≡ before.form = search rules in
    let has = subst (IsLineOf c.args.printed.form entry) c.in-Some.is c.args.printed.line_is in
    let line : line_in before.form entry ≡ c.as_slice.result.now = ap (λ f. line_in f entry) (sym form) ∙ sym has.1 ∙ sym c.as_slice.ensures.value in
    let from : before.order.current ≤ file = search rules in
    let choice : c.args.printed.choice ≡ before.choice = search rules in
    let comes = comes_next before.choice c.args.printed.choice (g.J.KnownFiles.meaning file) file c.args.printed.ordinal before.order.waiting entry refl refl refl choice
    c.args.printed.rec_is c.args.printed.placed (c.is_next.ensures.next (search rules)) in
    let old = g.S.Sink.taken c.args.sink.now in
    let new = g.S.Sink.taken c.add.new.sink in
    ok_both c.add.result c.add.ensures.goes_on c.add.ensures.kept (λ goes kept start ns held.
    held_item g.J.KnownFiles.meaning start old new before after ns file entry same c.add.ensures.same.current below from comes
    (λ came next more was. written_more before.form start old new before.order order file came next entry c.as_slice.result.now below from line more c.add.ensures.same goes kept was)
    (λ came next more was. flawless_item (length before.order.waiting) file entry came next before.flawless below has.0 more was)
    held)

pub returns-clause-held : goal.returns-clause-held
returns-clause-held g c =
    let entry = lacking (entry_of c.args.printed.file c.args.printed.ordinal c.args.printed.rec.value c.args.printed.choice (answer_in c.args.printed.found.value) c.args.printed.answers) in
    let file = c.args.printed.file in
    let before = c.args.self.now in
    let after = c.add_out_of_memory_line.new.self in
    let below : file < length before.order.waiting = search rules in
    let from : before.order.current ≤ file = search rules in
    let choice : c.args.printed.choice ≡ before.choice = search rules in
    let comes = comes_next before.choice c.args.printed.choice (g.J.KnownFiles.meaning file) file c.args.printed.ordinal before.order.waiting entry refl refl refl choice
    c.args.printed.rec_is c.args.printed.placed (c.is_next.ensures.next (search rules)) in
    ok_both c.add_out_of_memory_line.result c.add_out_of_memory_line.ensures.added c.add_out_of_memory_line.ensures.lacking (λ added lacks start ns held.
    held_item g.J.KnownFiles.meaning start (g.S.Sink.taken c.args.sink.now) (g.S.Sink.taken c.add_out_of_memory_line.new.sink) before after ns file entry c.add_out_of_memory_line.ensures.same c.add_out_of_memory_line.ensures.current below from comes
    (λ came next more was. added start came next entry refl refl refl more was)
    (λ came next more was. subst (λ b. (b ≡ true) ↔ ((k : ℕ) → k < length before.order.waiting → IsFlawlessSoFar (next k))) (sym lacks) (whole_lacking (length before.order.waiting) file entry came next below refl more))
    held)

pub returns-in-Some-clause-partial : goal.returns-in-Some-clause-partial
returns-in-Some-clause-partial g c =
    let entry = entry_of c.args.printed.file c.args.printed.ordinal c.args.printed.rec.value c.args.printed.choice (answer_in c.args.printed.found.value) c.args.printed.answers in
    let file = c.args.printed.file in
    let before = c.args.self.now in
    let after : Lines = record before { order = c.add.new.self } in
    let same : AreLinesOf before after = record { form = refl; choice = refl; files = c.add.ensures.same.count } in
    let below : file < length before.order.waiting = search rules in
    let form : c.args.printed.form ≡ before.form = search rules in
    let has = subst (IsLineOf c.args.printed.form entry) c.in-Some.is c.args.printed.line_is in
    let line : line_in before.form entry ≡ c.as_slice.result.now = ap (λ f. line_in f entry) (sym form) ∙ sym has.1 ∙ sym c.as_slice.ensures.value in
    let from : before.order.current ≤ file = search rules in
    let choice : c.args.printed.choice ≡ before.choice = search rules in
    let comes = comes_next before.choice c.args.printed.choice (g.J.KnownFiles.meaning file) file c.args.printed.ordinal before.order.waiting entry refl refl refl choice
    c.args.printed.rec_is c.args.printed.placed (c.is_next.ensures.next (search rules)) in
    let old = g.S.Sink.taken c.args.sink.now in
    let new = g.S.Sink.taken c.add.new.sink in
    err_then c.add.result c.add.ensures.partial (λ partial start ns held.
    left_off_item g.J.KnownFiles.meaning start old new before after ns file entry same below from comes
    (λ came next more was. partial_more before.form start old new before.order file came next entry c.as_slice.result.now below line more partial was) held)

pub returns-clause-partial : goal.returns-clause-partial
returns-clause-partial g c =
    let entry = lacking (entry_of c.args.printed.file c.args.printed.ordinal c.args.printed.rec.value c.args.printed.choice (answer_in c.args.printed.found.value) c.args.printed.answers) in
    let file = c.args.printed.file in
    let before = c.args.self.now in
    let after = c.add_out_of_memory_line.new.self in
    let below : file < length before.order.waiting = search rules in
    let from : before.order.current ≤ file = search rules in
    let choice : c.args.printed.choice ≡ before.choice = search rules in
    let comes = comes_next before.choice c.args.printed.choice (g.J.KnownFiles.meaning file) file c.args.printed.ordinal before.order.waiting entry refl refl refl choice
    c.args.printed.rec_is c.args.printed.placed (c.is_next.ensures.next (search rules)) in
    err_then c.add_out_of_memory_line.result c.add_out_of_memory_line.ensures.partial (λ partial start ns held.
    left_off_item g.J.KnownFiles.meaning start (g.S.Sink.taken c.args.sink.now) (g.S.Sink.taken c.add_out_of_memory_line.new.sink) before after ns file entry c.add_out_of_memory_line.ensures.same below from comes
    (λ came next more was. partial start came next entry refl refl refl more was) held)

pub returns-then-ne-clause-partial : goal.returns-then-ne-clause-partial
returns-then-ne-clause-partial g c = λ start ns held. inl (left_off_held g.J.KnownFiles.meaning start (g.S.Sink.taken c.args.sink.now) c.args.self.now ns held)
