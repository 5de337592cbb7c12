use Rattle.std.proofs.Common.{List, OnOk, refl}
use Rattle.lanes.specs.Notes.{Note}
use Rattle.file_order.proofs.SucceedsOrFails.{ok_both, err_both}
use Rattle.collector.specs.declared.picking.Picks.{Picks}
use Rattle.collector.specs.PicksHolding.{PicksHold}
use Rattle.collector.proofs.PicksHeld.{flushed_picks, left_off_flushed}
use Rattle.collector.proofs.picking.TextsPicksConsumerFoundFactsKnownEnd.flush.Goals as goal

pub returns-clause-kept : goal.returns-clause-kept
returns-clause-kept g c =
    let lines = c.args.self.now.lines in
    let order = c.flush-flushed.new.self in
    let meaning = g.J.KnownFiles.meaning in
    let start = g.S.Sink.taken c.args.self.now.start.value in
    let old = g.S.Sink.taken c.args.self.now.sink.now in
    let new = g.S.Sink.taken c.flush-flushed.new.sink in
    let held : OnOk c.flush-flushed.result ((ns : List Note) → PicksHold meaning start old lines ns → PicksHold meaning start new (record lines { order = order }) ns) =
    ok_both c.flush-flushed.result c.flush-flushed.ensures.put c.flush-flushed.ensures.flushed (λ put flushed ns was. flushed_picks meaning start old new lines order ns put flushed was) in
    ok_both c.flush-flushed.result held c.flush-flushed.ensures.stands.stands (λ held stands ns was. (stands, held ns was.1))

pub returns-clause-gave_up : goal.returns-clause-gave_up
returns-clause-gave_up g c =
    let lines = c.args.self.now.lines in
    let meaning = g.J.KnownFiles.meaning in
    let start = g.S.Sink.taken c.args.self.now.start.value in
    let old = g.S.Sink.taken c.args.self.now.sink.now in
    let new = g.S.Sink.taken c.flush-flushed.new.sink in
    let after : Picks = record lines { order = c.flush-flushed.new.self } in
    err_both c.flush-flushed.result c.flush-flushed.ensures.stands.gave_up c.flush-flushed.ensures.partial (λ refusal gave partial.
    (gave, left_off_flushed meaning start old new lines after c.requires.0 (record { selection = refl; choice = refl; files = c.flush-flushed.ensures.same.count }) partial c.requires.1.1))
