use Rattle.std.proofs.Common.{ℕ, ◌∙◌, length, subst}
use Rattle.planar_code.specs.declared.partial_record.Ending.TheVariants as ending
use Rattle.streams.specs.declared.frames.Mark.TheVariants.{Ended}
use Rattle.streams.specs.Sink.{AppendsPrefix}
use Rattle.streams.specs.Text.{record_lines, frames_end_line}
use Rattle.streams.specs.FrameLines.{added_front}
use Rattle.streams.proofs.Sinks.{failed_front, front_longer}
use Rattle.std.proofs.lemmas.Result.{err_from_is_err_and}
use Rattle.streams.proofs.frames.write_frames_of.Goals as goal

pub returns-in_err-end-clause-begun : goal.returns-in_err-end-clause-begun
returns-in_err-end-clause-begun g c =
    let q = err_from_is_err_and c.from_residual.result c.from_residual.ensures.1 in
    let begun = c.in_err-end.ensures.begun in
    rw q.1 (record {
      records = begun.0;
      mark = Ended ending.Memory;
      found = begun.2;
      text = front_longer _ _ (record_lines 1 begun.0) (frames_end_line (Ended ending.Memory) (length begun.0)) begun.1.2;
    })

pub returns-in_err-write_mark-clause-begun : goal.returns-in_err-write_mark-clause-begun
returns-in_err-write_mark-clause-begun g c =
    let q = err_from_is_err_and c.from_residual-in_err-write_mark.result c.from_residual-in_err-write_mark.ensures.1 in
    let taken = g.S.Sink.taken in
    let found = c.in_ok-end.ensures.found in
    let mark = c.in_ok-end.end.mark in
    let front = failed_front (Unit {0}) _ _ _ (frames_end_line mark c.from.result) c.in_err-write_mark.field-0.0 c.in_err-write_mark.ensures in
    rw q.1 (record {
      records = found.0;
      mark = mark;
      found = found.3;
      text = added_front _ _ _ (record_lines 1 found.0) (frames_end_line mark (length found.0)) found.1
          (subst (λ (n : ℕ). AppendsPrefix (taken c.write_records_of.new.sink) (taken c.write_mark.new.sink) (frames_end_line mark n)) (c.from.ensures ∙ found.2) front);
    })
