use Rattle.std.proofs.Common.{◌≡◌, ◌+◌, ◌++◌, ℕ, List, Ok, Err, take, subst, refl}
use Rattle.std.proofs.lemmas.Result.{err_from_is_err_and}
use Rattle.streams.specs.declared.output.WriteFault.{WriteFault}
use Rattle.streams.specs.Sink.{StaysInTransit}
use Rattle.reports.specs.Report.{entry_line, numbered_texts}
use Rattle.streams.proofs.Sinks.{stays_both, stays_fails}
use Rattle.reports.proofs.TextParts.{texts-next, texts-at, texts_rest}
use Rattle.reports.proofs.report_line.add_entries.Goals as goal

pub returns-in_err-add_line : goal.returns-in_err-add_line
returns-in_err-add_line g c =
    let p = err_from_is_err_and c.from_residual.result c.from_residual.ensures.1 in
    let e = c.in_err-add_line.field-0.0 in
    let is : c.from_residual.result ≡ Err e = subst (λ (e : WriteFault). c.from_residual.result ≡ Err e) p.2 p.1 in
    let xs = c.args.entries.now in
    let i = c.loop-index.index in
    let x = c.index-entries-index.result in
    let before = numbered_texts entry_line 1 (take i xs) in
    let old = g.S.Sink.taken c.args.sink.now in
    let new = g.S.Sink.taken c.add_line.new.sink in
    let failed = g.S.Sink.failed c.add_line.new.sink in
    let wrote : StaysInTransit {A = Unit {0}} (g.S.Sink.taken c.loop-index.sink) c.loop-index.lines new c.add_line.new.lines failed (entry_line (i + 1) x) (Err e) =
    subst (λ (line : List ℕ). StaysInTransit {A = Unit {0}} (g.S.Sink.taken c.loop-index.sink) c.loop-index.lines new c.add_line.new.lines failed line (Err e)) c.of_graph.ensures c.in_err-add_line.ensures in
    let both : StaysInTransit {A = Unit {0}} old c.args.lines.now new c.add_line.new.lines failed (before ++ entry_line (i + 1) x) (Err e) =
    stays_both old (g.S.Sink.taken c.loop-index.sink) new c.args.lines.now c.loop-index.lines c.add_line.new.lines (g.S.Sink.failed c.loop-index.sink) failed
    before (entry_line (i + 1) x) (before ++ entry_line (i + 1) x) tt (Err e) c.loop-index.invariant wrote refl in
    stays_fails old new c.args.lines.now c.add_line.new.lines failed (before ++ entry_line (i + 1) x) (texts_rest entry_line xs (i + 1)) (numbered_texts entry_line 1 xs) e c.from_residual.result both
    (texts-at entry_line xs i x c.loop-index-test.true c.index-entries-index.is) is

pub loop-index-preserved : goal.loop-index-preserved
loop-index-preserved g c =
    let xs = c.args.entries.now in
    let i = c.loop-index.index in
    let x = c.index-entries-index.result in
    let new = g.S.Sink.taken c.add_line.new.sink in
    let failed = g.S.Sink.failed c.add_line.new.sink in
    let wrote : StaysInTransit {A = Unit {0}} (g.S.Sink.taken c.loop-index.sink) c.loop-index.lines new c.add_line.new.lines failed (entry_line (i + 1) x) (Ok tt) =
    subst (λ (line : List ℕ). StaysInTransit {A = Unit {0}} (g.S.Sink.taken c.loop-index.sink) c.loop-index.lines new c.add_line.new.lines failed line (Ok tt)) c.of_graph.ensures c.in_ok-add_line.ensures in
    stays_both (g.S.Sink.taken c.args.sink.now) (g.S.Sink.taken c.loop-index.sink) new
    c.args.lines.now c.loop-index.lines c.add_line.new.lines (g.S.Sink.failed c.loop-index.sink) failed
    (numbered_texts entry_line 1 (take i xs)) (entry_line (i + 1) x) (numbered_texts entry_line 1 (take (i + 1) xs)) tt (Ok tt) c.loop-index.invariant wrote
    (texts-next entry_line xs i x c.loop-index-test.true c.index-entries-index.is)
