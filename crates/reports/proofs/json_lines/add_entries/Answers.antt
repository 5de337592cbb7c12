use Rattle.std.proofs.Common.{◌≡◌, ◌+◌, ◌++◌, Ok, Err, take, subst, refl}
use Rattle.std.proofs.lemmas.Result.{err_from_is_err_and}
use Rattle.streams.specs.declared.output.WriteFault.{WriteFault}
use Rattle.reports.specs.Writing.{StaysOrLacks}
use Rattle.reports.specs.Report.{numbered_texts}
use Rattle.reports.specs.Json.{entry_json}
use Rattle.reports.proofs.TextParts.{texts-next, texts-at, texts_rest}
use Rattle.reports.proofs.Lacks.{lacks_both, lacks_more}
use Rattle.reports.proofs.json_lines.add_entries.Goals as goal

pub returns-in_err-add_entry : goal.returns-in_err-add_entry
returns-in_err-add_entry g c =
    let p = err_from_is_err_and c.from_residual.result c.from_residual.ensures.1 in
    let e = c.in_err-add_entry.field-0.0 in
    let is : c.from_residual.result ≡ Err e = subst (λ (e : WriteFault). c.from_residual.result ≡ Err e) p.2 p.1 in
    let line = entry_json c.args.file in
    let xs = c.args.entries.now in
    let i = c.loop-index.index in
    let x = c.index-entries-index.result in
    let before = numbered_texts line 1 (take i xs) in
    let old = g.S.Sink.taken c.args.sink.now in
    let new = g.S.Sink.taken c.add_entry.new.sink in
    let failed = g.S.Sink.failed c.add_entry.new.sink in
    let both : StaysOrLacks {A = Unit {0}} old c.args.lines.now new c.add_entry.new.lines failed (before ++ line (i + 1) x) (Err e) =
    lacks_both old (g.S.Sink.taken c.loop-index.sink) new c.args.lines.now c.loop-index.lines c.add_entry.new.lines (g.S.Sink.failed c.loop-index.sink) failed
    before (line (i + 1) x) (before ++ line (i + 1) x) tt (Err e) c.loop-index.invariant c.in_err-add_entry.ensures refl in
    lacks_more old new c.args.lines.now c.add_entry.new.lines failed (before ++ line (i + 1) x) (texts_rest line xs (i + 1)) (numbered_texts line 1 xs) e c.from_residual.result both
    (texts-at line xs i x c.loop-index-test.true c.index-entries-index.is) is

pub loop-index-preserved : goal.loop-index-preserved
loop-index-preserved g c =
    let line = entry_json c.args.file in
    let xs = c.args.entries.now in
    let i = c.loop-index.index in
    let x = c.index-entries-index.result in
    lacks_both (g.S.Sink.taken c.args.sink.now) (g.S.Sink.taken c.loop-index.sink) (g.S.Sink.taken c.add_entry.new.sink)
    c.args.lines.now c.loop-index.lines c.add_entry.new.lines (g.S.Sink.failed c.loop-index.sink) (g.S.Sink.failed c.add_entry.new.sink)
    (numbered_texts line 1 (take i xs)) (line (i + 1) x) (numbered_texts line 1 (take (i + 1) xs)) tt (Ok tt) c.loop-index.invariant c.in_ok-add_entry.ensures
    (texts-next line xs i x c.loop-index-test.true c.index-entries-index.is)
