use Rattle.std.proofs.Common.{◌≡◌, List, ℕ, ◌++◌, Err, length, refl, subst}
use Rattle.streams.specs.Sink.{Writes}
use Rattle.streams.specs.Text.{frames_text, record_lines, frames_end_line}
use Rattle.streams.proofs.Lines.{text_by_parts}
use Rattle.streams.proofs.Sinks.{written_both, writing_failed}
use Rattle.std.proofs.lemmas.Result.{err_from_is_err_and}
use Rattle.streams.specs.declared.output.WriteFault.{WriteFault}
use Rattle.streams.proofs.frames.write_frames.Goals as goal

pub returns : goal.returns
returns g c =
    let taken = g.S.Sink.taken in
    let found = c.args.frames.now in
    let xs = c.records-records.result.now in
    let last = frames_end_line c.mark.result (length xs) in
    let whole : record_lines 1 xs ++ last ≡ frames_text found = text_by_parts found xs c.mark.result c.records-records.ensures c.mark.ensures in
    subst (λ (text : List ℕ). Writes (taken c.args.sink.now) (taken c.write_mark.new.sink) (g.S.Sink.failed c.write_mark.new.sink) text c.write_mark.result) whole
    (written_both _ _ _ _ (record_lines 1 xs) last _ c.in_ok-write_records.ensures.writes.1 c.write_mark.ensures)

pub returns-in_err-write_records : goal.returns-in_err-write_records
returns-in_err-write_records g c =
    let p = err_from_is_err_and c.from_residual.result c.from_residual.ensures.1 in
    let e = c.in_err-write_records.field-0.0 in
    let is : c.from_residual.result ≡ Err e = subst (λ (e : WriteFault). c.from_residual.result ≡ Err e) p.2 p.1 in
    let taken = g.S.Sink.taken in
    let found = c.args.frames.now in
    let xs = c.records-records.result.now in
    let last = frames_end_line found.mark (length xs) in
    let whole : record_lines 1 xs ++ last ≡ frames_text found = text_by_parts found xs found.mark c.records-records.ensures refl in
    rw is (subst (λ (text : List ℕ). Writes {A = Unit {0}} (taken c.args.sink.now) (taken c.write_records.new.sink) (g.S.Sink.failed c.write_records.new.sink) text (Err e)) whole
    (writing_failed (Unit {0}) (Unit {0}) _ _ _ (record_lines 1 xs) last e c.in_err-write_records.ensures.writes))
