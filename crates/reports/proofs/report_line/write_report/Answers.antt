use Rattle.std.proofs.Common.{◌≡◌, ◌+◌, ◌<◌, ◌≤◌, ℕ, List, Err, get_or, length, take, subst}
use Rattle.std.proofs.lemmas.Result.{err_from_is_err_and}
use Rattle.streams.specs.declared.output.WriteFault.{WriteFault}
use Rattle.streams.specs.Sink.{IsInTransit}
use Rattle.streams.proofs.Sinks.{line_fails, flushed_whole}
use Rattle.reports.specs.Report.{book_text, report_text, numbered_texts}
use Rattle.reports.proofs.TextParts.{texts-next, texts-at, texts-all, texts_rest}
use Rattle.reports.proofs.report_line.write_report.Goals as goal

pub returns-in_err-add_book : goal.returns-in_err-add_book
returns-in_err-add_book g c =
    let p = err_from_is_err_and c.from_residual.result c.from_residual.ensures.1 in
    let is : c.from_residual.result ≡ Err c.in_err-add_book.field-0.0 =
    subst (λ (e : WriteFault). c.from_residual.result ≡ Err e) p.2 p.1 in
    let xs = c.args.batch.now in
    let i = c.loop-file.file in
    let x = c.book.result.now in
    let here : x ≡ get_or xs i x = c.book.ensures x in
    let below : i < length xs = subst (λ n. i < n) c.files-file-end.ensures.count c.loop-file-test.true in
    line_fails _ _ _ _ c.add_book.new.lines _ (numbered_texts book_text 1 (take i xs)) (book_text (i + 1) x) (texts_rest book_text xs (i + 1)) (report_text xs) _ _
    c.loop-file.invariant.in_transit c.in_err-add_book.ensures
    (texts-at book_text xs i x below here) is

pub loop-file-preserved : goal.loop-file-preserved
loop-file-preserved g c =
    let xs = c.args.batch.now in
    let i = c.loop-file.file in
    let x = c.book.result.now in
    let here : x ≡ get_or xs i x = c.book.ensures x in
    let below : i < length xs = subst (λ n. i < n) c.files-file-end.ensures.count c.loop-file-test.true in
    record {
      whole = c.in_ok-add_book.ensures.0;
      in_transit = subst (λ (text : List ℕ). IsInTransit (g.S.Sink.taken c.args.sink.now) (g.S.Sink.taken c.add_book.new.sink) c.add_book.new.lines text)
          (texts-next book_text xs i x below here)
          (c.in_ok-add_book.ensures.1 _ _ c.loop-file.invariant.in_transit);
    }

pub returns : goal.returns
returns g c =
    let xs = c.args.batch.now in
    let i = c.loop-file.file in
    let past : length xs ≤ i = subst (λ n. n ≤ i) c.files-file-end.ensures.count c.loop-file-test.false in
    flushed_whole _ _ _ _ _ (report_text xs) _
    (subst (λ (text : List ℕ). IsInTransit (g.S.Sink.taken c.args.sink.now) (g.S.Sink.taken c.loop-file.sink) c.loop-file.lines text)
    (texts-all book_text xs i past) c.loop-file.invariant.in_transit) c.flush.ensures.writes
