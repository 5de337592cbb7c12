use Rattle.std.proofs.Common.{◌∙◌, length, get_or, ap, refl, subst}
use Rattle.file_order.proofs.SucceedsOrFails.{ok_both, err_then, err_any}
use Rattle.collector.specs.declared.picking.Picks.{Picks}
use Rattle.collector.specs.PicksHolding.{ArePicksOf, IsPartOfPicked}
use Rattle.collector.proofs.PicksHeld.{held_end, left_off_end, left_off_held, may_end}
use Rattle.collector.proofs.PickedText.{picked_marked}
use Rattle.collector.proofs.picking.Picks.end.Goals as goal

pub returns-clause-held : goal.returns-clause-held
returns-clause-held g c =
    let count = c.args.known.count in
    let file = c.args.file in
    let mark = c.args.mark in
    let before = c.args.self.now in
    let after = c.advance.new.self in
    let order = c.store_mark.new.self in
    let ended = c.in_ok-store_mark.ensures in
    let meaning = g.J.KnownFiles.meaning in
    let old = g.S.Sink.taken c.args.sink.now in
    let new = g.S.Sink.taken c.advance.new.sink in
    let went = c.advance.ensures.same in
    let same : ArePicksOf before after = record { selection = went.selection; choice = went.choice; files = went.files ∙ ended.count } in
    let flaws = c.advance.ensures.flaws in
    ok_both c.advance.result c.advance.ensures.written c.advance.ensures.unended (λ moves unended start ns held.
    held_end meaning start old new before after ns file mark same ended.open.1
    (ap (λ v. length v.items) flaws ∙ c.set_mark.ensures.count)
    (λ other. ap (λ v. get_or v.items file other) flaws ∙ c.set_mark.ensures.here other)
    (λ k other apart. ap (λ v. get_or v.items k other) flaws ∙ c.set_mark.ensures.others k other apart)
    (λ came next more was. moves start next (picked_marked before.selection start old before.order order file came next count mark ended.open.1 more ended.kept ended.same was))
    unended held (may_end meaning start old before ns file count mark ended.open.1 (λ other. (ended.kept.here other).counted) ended.is_end held))

pub returns-clause-partial : goal.returns-clause-partial
returns-clause-partial g c =
    let count = c.args.known.count in
    let file = c.args.file in
    let mark = c.args.mark in
    let before = c.args.self.now in
    let after = c.advance.new.self in
    let order = c.store_mark.new.self in
    let ended = c.in_ok-store_mark.ensures in
    let meaning = g.J.KnownFiles.meaning in
    let old = g.S.Sink.taken c.args.sink.now in
    let new = g.S.Sink.taken c.advance.new.sink in
    let went = c.advance.ensures.same in
    let same : ArePicksOf before after = record { selection = went.selection; choice = went.choice; files = went.files ∙ ended.count } in
    err_then c.advance.result c.advance.ensures.partial (λ partial start ns held.
    left_off_end meaning start old new before after ns file mark same ended.open.1
    (λ came next more was. subst (λ n. IsPartOfPicked before.selection start new n next) ended.count
    (partial start next (picked_marked before.selection start old before.order order file came next count mark ended.open.1 more ended.kept ended.same was)))
    held (may_end meaning start old before ns file count mark ended.open.1 (λ other. (ended.kept.here other).counted) ended.is_end held))

pub returns-in_err-store_mark-clause-partial : goal.returns-in_err-store_mark-clause-partial
returns-in_err-store_mark-clause-partial g c =
    let before = c.args.self.now in
    let mid : Picks = record before { order = c.store_mark.new.self } in
    err_any c.from_residual.result (λ start ns held.
    left_off_held g.J.KnownFiles.meaning start (g.S.Sink.taken c.args.sink.now) before mid ns (record { selection = refl; choice = refl; files = c.in_err-store_mark.ensures.count }) held)
