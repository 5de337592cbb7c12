use Rattle.std.proofs.Common.{get_or, refl, sym, subst, inl}
use Rattle.lanes.specs.Opening.{IsEndAt}
use Rattle.file_order.specs.declared.chunks.Waiting.{Waiting}
use Rattle.file_order.proofs.SucceedsOrFails.{ok_both, err_then, err_any}
use Rattle.collector.specs.declared.texts.Lines.{Lines}
use Rattle.collector.specs.Holding.{AreLinesOf}
use Rattle.collector.proofs.Adding.{written_marked}
use Rattle.collector.proofs.Held.{held_end, left_off_end, left_off_held, left_off_as}
use Rattle.collector.proofs.texts.Lines.end.Goals as goal

pub returns-clause-held : goal.returns-clause-held
returns-clause-held g c =
    let meaning = g.J.KnownFiles.meaning in
    let before = c.args.self.now in
    let file = c.args.file in
    let mark = c.args.mark in
    let count = c.args.known.count in
    let order = c.store_mark.new.self in
    let ended = c.in_ok-store_mark.ensures in
    let mid : Lines = record before { order = order; flawless = c.is_flawless_with-self.result } in
    let kept : AreLinesOf before mid = record { form = refl; choice = refl; files = ended.count } in
    let old = g.S.Sink.taken c.args.sink.now in
    let ends : (other : Waiting) → ∥ IsEndAt (meaning file) (get_or before.order.waiting file other).count mark ∥₁ =
    λ other. subst (λ n. ∥ IsEndAt (meaning file) n mark ∥₁) (sym (ended.kept.here other).counted) ended.is_end in
    ok_both c.advance.result c.advance.ensures.written c.advance.ensures.unended (λ moves unended start ns held.
    held_end meaning start old (g.S.Sink.taken c.advance.new.sink) before mid c.advance.new.self ns file mark c.advance.ensures.same kept ended.open.1
    (λ other. (ended.kept.here other).unmarked) ends ended.open.0 c.is_flawless_with-self.ensures c.advance.ensures.flawless
    (λ came next more was. written_marked before.form start old before.order order file came next count mark ended.open.1 ended.open.0 more ended.kept ended.same was)
    (moves start) unended held)

pub returns-clause-partial : goal.returns-clause-partial
returns-clause-partial g c =
    let meaning = g.J.KnownFiles.meaning in
    let before = c.args.self.now in
    let file = c.args.file in
    let mark = c.args.mark in
    let count = c.args.known.count in
    let order = c.store_mark.new.self in
    let ended = c.in_ok-store_mark.ensures in
    let mid : Lines = record before { order = order; flawless = c.is_flawless_with-self.result } in
    let kept : AreLinesOf before mid = record { form = refl; choice = refl; files = ended.count } in
    let old = g.S.Sink.taken c.args.sink.now in
    let ends : (other : Waiting) → ∥ IsEndAt (meaning file) (get_or before.order.waiting file other).count mark ∥₁ =
    λ other. subst (λ n. ∥ IsEndAt (meaning file) n mark ∥₁) (sym (ended.kept.here other).counted) ended.is_end in
    err_then c.advance.result c.advance.ensures.partial (λ partial start ns held.
    left_off_end meaning start old (g.S.Sink.taken c.advance.new.sink) before mid c.advance.new.self ns file mark c.advance.ensures.same kept ended.open.1 ends ended.open.0
    (λ came next more was. written_marked before.form start old before.order order file came next count mark ended.open.1 ended.open.0 more ended.kept ended.same was)
    (partial start) held)

pub returns-in_err-store_mark-clause-partial : goal.returns-in_err-store_mark-clause-partial
returns-in_err-store_mark-clause-partial g c =
    let before = c.args.self.now in
    let mid : Lines = record before { order = c.store_mark.new.self } in
    let now = g.S.Sink.taken c.args.sink.now in
    err_any c.from_residual.result (λ start ns held.
    inl (left_off_as g.J.KnownFiles.meaning start now before mid ns (record { form = refl; choice = refl; files = c.in_err-store_mark.ensures.count })
    (left_off_held g.J.KnownFiles.meaning start now before ns held)))
