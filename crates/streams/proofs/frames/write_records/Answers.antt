use Rattle.std.proofs.Common.{◌≡◌, ◌+◌, ℕ, List, ◌++◌, Err, length, take, subst, sym, ◌∙◌, ap}
use Rattle.std.proofs.lemmas.Result.{err_from_is_err_and}
use Rattle.streams.specs.declared.output.WriteFault.{WriteFault}
use Rattle.streams.specs.Sink.{IsInTransit}
use Rattle.streams.specs.Text.{record_lines, record_line}
use Rattle.streams.proofs.Lines.{record_lines-next, record_lines-front, record_lines-at, record_lines-all}
use Rattle.streams.proofs.Sinks.{line_fails, flushed_whole}
use Rattle.streams.proofs.frames.write_records.Goals as goal

pub returns-in_err-write_record-clause-writes : goal.returns-in_err-write_record-clause-writes
returns-in_err-write_record-clause-writes g c =
    let p = err_from_is_err_and c.from_residual.result c.from_residual.ensures.1 in
    let is : c.from_residual.result ≡ Err c.in_err-write_record.field-0.0 =
    subst (λ (e : WriteFault). c.from_residual.result ≡ Err e) p.2 p.1 in
    let xs = c.args.records.now in
    let i = c.loop-index.index in
    let n = c.args.first + 1 in
    line_fails _ _ _ _ c.write_record.new.lines _ (record_lines n (take i xs)) (record_line (n + i) c.index-records-index.result) (record_lines-front n xs (i + 1)).0 (record_lines n xs) _ _
    c.loop-index.invariant.in_transit c.in_err-write_record.ensures
    (record_lines-at n xs i c.index-records-index.result c.loop-index-test.true c.index-records-index.is) is

pub loop-index-preserved : goal.loop-index-preserved
loop-index-preserved g c =
    let xs = c.args.records.now in
    let i = c.loop-index.index in
    let n = c.args.first + 1 in
    let x = c.index-records-index.result in
    let next : record_lines n (take i xs) ++ record_line (n + i) x ≡ record_lines n (take (i + 1) xs) =
    ap (λ y. record_lines n (take i xs) ++ record_line (n + i) y) c.index-records-index.is ∙ sym (record_lines-next n xs i x c.loop-index-test.true) in
    record {
      whole = c.in_ok-write_record.ensures.0;
      in_transit = subst (λ (text : List ℕ). IsInTransit (g.S.Sink.taken c.args.sink.now) (g.S.Sink.taken c.write_record.new.sink) c.write_record.new.lines text) next
          (c.in_ok-write_record.ensures.1 _ _ c.loop-index.invariant.in_transit);
    }

pub returns-clause-writes : goal.returns-clause-writes
returns-clause-writes g c =
    let xs = c.args.records.now in
    let i = c.loop-index.index in
    let n = c.args.first + 1 in
    flushed_whole _ _ _ _ _ (record_lines n xs) _
    (subst (λ (text : List ℕ). IsInTransit (g.S.Sink.taken c.args.sink.now) (g.S.Sink.taken c.loop-index.sink) c.loop-index.lines text)
    (record_lines-all n xs i c.loop-index-test.false) c.loop-index.invariant.in_transit) c.flush.ensures.writes
