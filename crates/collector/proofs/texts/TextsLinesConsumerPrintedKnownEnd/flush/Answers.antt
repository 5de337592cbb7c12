use Rattle.std.proofs.Common.{List, OnOk}
use Rattle.lanes.specs.Notes.{Note}
use Rattle.file_order.proofs.SucceedsOrFails.{ok_both, err_both}
use Rattle.collector.specs.Holding.{LinesHold}
use Rattle.collector.proofs.Held.{flushed_lines, left_off_flushed}
use Rattle.collector.proofs.texts.TextsLinesConsumerPrintedKnownEnd.flush.Goals as goal

pub returns-clause-kept : goal.returns-clause-kept
returns-clause-kept g c =
    let lines = c.args.self.now.lines in
    let order = c.flush-flushed.new.self in
    let meaning = g.J.KnownFiles.meaning in
    let start = g.S.Sink.taken c.args.self.now.start.value in
    let old = g.S.Sink.taken c.args.self.now.sink.now in
    let new = g.S.Sink.taken c.flush-flushed.new.sink in
    let held : OnOk c.flush-flushed.result ((ns : List Note) → LinesHold meaning start old lines ns → LinesHold meaning start new (record lines { order = order }) ns) =
    ok_both c.flush-flushed.result c.flush-flushed.ensures.put c.flush-flushed.ensures.flushed (λ put flushed ns was. flushed_lines meaning start old new lines order ns put flushed was) in
    ok_both c.flush-flushed.result held c.flush-flushed.ensures.stands.stands (λ held stands ns was. (stands, held ns was.1))

pub returns-clause-gave_up : goal.returns-clause-gave_up
returns-clause-gave_up g c =
    let lines = c.args.self.now.lines in
    let meaning = g.J.KnownFiles.meaning in
    let start = g.S.Sink.taken c.args.self.now.start.value in
    let old = g.S.Sink.taken c.args.self.now.sink.now in
    let new = g.S.Sink.taken c.flush-flushed.new.sink in
    err_both c.flush-flushed.result c.flush-flushed.ensures.stands.gave_up c.flush-flushed.ensures.partial (λ refusal gave partial.
    (gave, (c.requires.0, left_off_flushed meaning start old new lines c.flush-flushed.new.self c.requires.0 c.flush-flushed.ensures.same.count partial c.requires.1.1)))
