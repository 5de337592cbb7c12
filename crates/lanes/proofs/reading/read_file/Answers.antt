use Rattle.std.proofs.Common.{rules, IfOk, sym, subst}
use Rattle.std.proofs.lemmas.Result.{IfOk-weaker}
use Rattle.streams.proofs.Placed.{each_as}
use Rattle.lanes.specs.Keeping.{KeepsFile}
use Rattle.lanes.proofs.Accepting.{placed_opened}
use Rattle.lanes.proofs.Keeping.{keeps_opened, keeps_unopened, keeps_wanting}
use Rattle.lanes.proofs.reading.read_file.Goals as goal

pub returns-clause-kept : goal.returns-clause-kept
returns-clause-kept g c =
    let meaning = g.O.Opener.meaning c.args.opener.now c.args.file in
    let kept = g.K.RecordSink.kept in
    subst (λ sink. IfOk c.read_source.result (λ end. KeepsFile c.args.choice meaning c.args.file (kept c.args.sink.now) (kept sink) end.count end.mark)) (search rules)
    (IfOk-weaker c.read_source.result _ _
    (λ end is. keeps_opened _ _ _ _ _ _ _ _ end.count end.mark c.in-Ok.ensures (record { records = is.0; counted = sym is.2; kept = is.1.1; found = is.3 }))
    c.read_source.ensures.found)

pub returns-in-Err-Io-clause-kept : goal.returns-in-Err-Io-clause-kept
returns-in-Err-Io-clause-kept g c = keeps_unopened _ _ _ _ _ _ _ c.in-Err-Io.ensures c.in-Err-Io.field-0-is

pub returns-in-Err-Memory-clause-kept : goal.returns-in-Err-Memory-clause-kept
returns-in-Err-Memory-clause-kept g c = keeps_wanting _ _ _ _

pub read_source-requires-clause-accepted : goal.read_source-requires-clause-accepted
read_source-requires-clause-accepted g c = λ first records placed.
    each_as _ (g.K.RecordSink.accepts c.args.sink.now c.args.file)
    (λ place bytes at. c.requires.accepted place bytes (placed_opened _ _ _ _ place bytes c.in-Ok.ensures at)) first records placed
