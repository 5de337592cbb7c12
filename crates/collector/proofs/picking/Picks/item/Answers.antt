use Rattle.std.proofs.Common.{◌≡◌, ◌<◌, ◌≤◌, length, get_or, refl, rules}
use Rattle.file_order.specs.declared.chunks.Waiting.{Waiting}
use Rattle.file_order.specs.Waits.{IsNext}
use Rattle.file_order.proofs.SucceedsOrFails.{ok_both, err_then, err_any}
use Rattle.collector.specs.declared.picking.Picks.{Picks}
use Rattle.collector.specs.FactBooks.{FactEntry}
use Rattle.collector.specs.Picked.{picked_of}
use Rattle.collector.specs.PicksHolding.{ArePicksOf}
use Rattle.collector.proofs.PickedText.{picked_added, part_more}
use Rattle.collector.proofs.PicksHeld.{comes_next, held_item, left_off_held, left_off_item}
use Rattle.collector.proofs.picking.Picks.item.Goals as goal

pub returns-clause-held : goal.returns-clause-held
returns-clause-held g c =
    let found = c.args.found in
    let entry : FactEntry = record { about = record { file = found.file; ordinal = found.ordinal; bytes = found.rec; choice = found.choice }; facts = found.facts; right = found.right } in
    let file = found.file in
    let before = c.args.self.now in
    let order = c.add.new.self in
    let after : Picks = record before { order = order; flaws = c.add_flaw.new.flaws } in
    let meaning = g.J.KnownFiles.meaning in
    let old = g.S.Sink.taken c.args.sink.now in
    let new = g.S.Sink.taken c.add.new.sink in
    let below : file < length before.order.waiting = search rules in
    let from : before.order.current ≤ file = search rules in
    let choice : found.choice ≡ before.choice = search rules in
    let next : (other : Waiting) → IsNext found.ordinal (get_or before.order.waiting file other) = c.is_next.ensures.next (search rules) in
    let text : c.picked.result.now ≡ picked_of before.selection entry = c.picked.ensures in
    let same : ArePicksOf before after = record { selection = refl; choice = refl; files = c.add.ensures.same.count } in
    ok_both c.add.result c.add.ensures.goes_on c.add.ensures.kept (λ goes kept start ns held.
    held_item meaning start old new before after ns file entry same c.add.ensures.same.current below
    c.in_ok-add_flaw.ensures.count c.in_ok-add_flaw.ensures.here c.in_ok-add_flaw.ensures.others
    (λ came next more was. picked_added before.selection start old new before.order order file came next entry c.picked.result.now below from text more c.add.ensures.same goes kept was) held
    (comes_next meaning start old before ns file entry refl choice found.rec_is found.placed below next held))

pub returns-clause-partial : goal.returns-clause-partial
returns-clause-partial g c =
    let found = c.args.found in
    let entry : FactEntry = record { about = record { file = found.file; ordinal = found.ordinal; bytes = found.rec; choice = found.choice }; facts = found.facts; right = found.right } in
    let file = found.file in
    let before = c.args.self.now in
    let after : Picks = record before { order = c.add.new.self; flaws = c.add_flaw.new.flaws } in
    let meaning = g.J.KnownFiles.meaning in
    let old = g.S.Sink.taken c.args.sink.now in
    let new = g.S.Sink.taken c.add.new.sink in
    let below : file < length before.order.waiting = search rules in
    let from : before.order.current ≤ file = search rules in
    let choice : found.choice ≡ before.choice = search rules in
    let next : (other : Waiting) → IsNext found.ordinal (get_or before.order.waiting file other) = c.is_next.ensures.next (search rules) in
    let text : c.picked.result.now ≡ picked_of before.selection entry = c.picked.ensures in
    let same : ArePicksOf before after = record { selection = refl; choice = refl; files = c.add.ensures.same.count } in
    err_then c.add.result c.add.ensures.partial (λ partial start ns held.
    left_off_item meaning start old new before after ns file entry same below
    (λ came next more was. part_more before.selection start old new before.order file came next entry c.picked.result.now below from text more partial was) held
    (comes_next meaning start old before ns file entry refl choice found.rec_is found.placed below next held))

pub returns-in_err-add_flaw-clause-partial : goal.returns-in_err-add_flaw-clause-partial
returns-in_err-add_flaw-clause-partial g c =
    let before = c.args.self.now in
    let mid : Picks = record before { flaws = c.add_flaw.new.flaws } in
    err_any c.from_residual.result (λ start ns held.
    left_off_held g.J.KnownFiles.meaning start (g.S.Sink.taken c.args.sink.now) before mid ns (record { selection = refl; choice = refl; files = refl }) held)

pub returns-then-ne-clause-partial : goal.returns-then-ne-clause-partial
returns-then-ne-clause-partial g c = λ start ns held.
    left_off_held g.J.KnownFiles.meaning start (g.S.Sink.taken c.args.sink.now) c.args.self.now c.args.self.now ns (record { selection = refl; choice = refl; files = refl }) held
