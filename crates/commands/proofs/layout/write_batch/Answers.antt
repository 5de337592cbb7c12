use Rattle.std.proofs.Common.{Err, refl, rules}
use Rattle.std.proofs.lemmas.Result.{err_from_is_err_and}
use Rattle.commands.proofs.FaultStatus.{refused_stream, streamed_fault}
use Rattle.commands.proofs.layout.write_batch.Goals as goal

pub returns-in_err-checked_file_count : goal.returns-in_err-checked_file_count
returns-in_err-checked_file_count g c =
    let a = c.args in
    let p = err_from_is_err_and c.from_residual.result c.from_residual.ensures.1 in
    let is = c.in_err-checked_file_count.ensures in
    refused_stream a.choice (g.O.Opener.meaning a.opener.now) a.style.form a.files a.lanes g.S.Sink.taken g.S.Sink.failed a.sink.now a.sink.now
    c.from_residual.result (Err c.in_err-checked_file_count.field-0.0) p.0 c.in_err-checked_file_count.field-0.0 p.1 p.2 refl c.requires.stands is.refused is.too_many is.bad_lanes

pub returns-in_err-write_text : goal.returns-in_err-write_text
returns-in_err-write_text g c =
    let a = c.args in
    let p = err_from_is_err_and c.from_residual-in_err-write_text.result c.from_residual-in_err-write_text.ensures.1 in
    streamed_fault a.choice (g.O.Opener.meaning a.opener.now) a.style.form a.files a.lanes g.S.Sink.taken g.S.Sink.failed a.sink.now c.write_text.new.sink
    c.from_residual-in_err-write_text.result p.0 c.in_err-write_text.field-0.0 p.1 p.2 (search rules) (search rules) c.in_err-write_text.ensures.failed c.in_err-write_text.ensures.begun
