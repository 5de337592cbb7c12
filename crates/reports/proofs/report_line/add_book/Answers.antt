use Rattle.std.proofs.Common.{◌≡◌, ◌++◌, List, ℕ, Ok, Err, length, subst, refl, sym, ◌∙◌, ap, append_assoc}
use Rattle.std.proofs.lemmas.Result.{err_from_is_err_and}
use Rattle.streams.specs.declared.output.WriteFault.{WriteFault}
use Rattle.streams.specs.Sink.{StaysInTransit}
use Rattle.reports.specs.Report.{file_line, entry_line, end_line, book_text, numbered_texts}
use Rattle.streams.proofs.Sinks.{stays_both, stays_fails}
use Rattle.reports.proofs.TextParts.{book_by_parts}
use Rattle.reports.proofs.report_line.add_book.Goals as goal

pub returns-in_err-add_line : goal.returns-in_err-add_line
returns-in_err-add_line g c =
    let p = err_from_is_err_and c.from_residual.result c.from_residual.ensures.1 in
    let e = c.in_err-add_line.field-0.0 in
    let is : c.from_residual.result ≡ Err e = subst (λ (e : WriteFault). c.from_residual.result ≡ Err e) p.2 p.1 in
    let book = c.args.book.now in
    let texts = numbered_texts entry_line 1 book.entries in
    let last = end_line book.mark (length book.entries) in
    let first : StaysInTransit {A = Unit {0}} (g.S.Sink.taken c.args.sink.now) c.args.lines.now (g.S.Sink.taken c.add_line.new.sink) c.add_line.new.lines (g.S.Sink.failed c.add_line.new.sink) (file_line c.args.number) (Err e) =
    subst (λ (line : List ℕ). StaysInTransit {A = Unit {0}} (g.S.Sink.taken c.args.sink.now) c.args.lines.now (g.S.Sink.taken c.add_line.new.sink) c.add_line.new.lines (g.S.Sink.failed c.add_line.new.sink) line (Err e))
    (c.of_file.ensures ∙ ap file_line c.from.ensures) c.in_err-add_line.ensures in
    stays_fails (g.S.Sink.taken c.args.sink.now) (g.S.Sink.taken c.add_line.new.sink) c.args.lines.now c.add_line.new.lines (g.S.Sink.failed c.add_line.new.sink)
    (file_line c.args.number) (texts ++ last) (book_text c.args.number book) e c.from_residual.result
    first (append_assoc (file_line c.args.number) texts last) is

pub returns-in_err-add_entries : goal.returns-in_err-add_entries
returns-in_err-add_entries g c =
    let p = err_from_is_err_and c.from_residual-in_err-add_entries.result c.from_residual-in_err-add_entries.ensures.1 in
    let e = c.in_err-add_entries.field-0.0 in
    let is : c.from_residual-in_err-add_entries.result ≡ Err e = subst (λ (e : WriteFault). c.from_residual-in_err-add_entries.result ≡ Err e) p.2 p.1 in
    let book = c.args.book.now in
    let xs = c.entries-entries.result.now in
    let front = file_line c.args.number ++ numbered_texts entry_line 1 xs in
    let old = g.S.Sink.taken c.args.sink.now in
    let new = g.S.Sink.taken c.add_entries.new.sink in
    let failed = g.S.Sink.failed c.add_entries.new.sink in
    let first : StaysInTransit {A = Unit {0}} (g.S.Sink.taken c.args.sink.now) c.args.lines.now (g.S.Sink.taken c.add_line.new.sink) c.add_line.new.lines (g.S.Sink.failed c.add_line.new.sink) (file_line c.args.number) (Ok tt) =
    subst (λ (line : List ℕ). StaysInTransit {A = Unit {0}} (g.S.Sink.taken c.args.sink.now) c.args.lines.now (g.S.Sink.taken c.add_line.new.sink) c.add_line.new.lines (g.S.Sink.failed c.add_line.new.sink) line (Ok tt))
    (c.of_file.ensures ∙ ap file_line c.from.ensures) c.in_ok-add_line.ensures in
    let both : StaysInTransit {A = Unit {0}} old c.args.lines.now new c.add_entries.new.lines failed front (Err e) =
    stays_both old (g.S.Sink.taken c.add_line.new.sink) new c.args.lines.now c.add_line.new.lines c.add_entries.new.lines (g.S.Sink.failed c.add_line.new.sink) failed
    (file_line c.args.number) (numbered_texts entry_line 1 xs) front tt (Err e) first c.in_err-add_entries.ensures refl in
    stays_fails old new c.args.lines.now c.add_entries.new.lines failed front (end_line book.mark (length xs)) (book_text c.args.number book) e c.from_residual-in_err-add_entries.result both
    (sym (book_by_parts c.args.number book xs book.mark c.entries-entries.ensures refl)) is

pub returns : goal.returns
returns g c =
    let book = c.args.book.now in
    let xs = c.entries-entries.result.now in
    let front = file_line c.args.number ++ numbered_texts entry_line 1 xs in
    let old = g.S.Sink.taken c.args.sink.now in
    let mid = g.S.Sink.taken c.add_entries.new.sink in
    let was = g.S.Sink.failed c.add_entries.new.sink in
    let first : StaysInTransit {A = Unit {0}} (g.S.Sink.taken c.args.sink.now) c.args.lines.now (g.S.Sink.taken c.add_line.new.sink) c.add_line.new.lines (g.S.Sink.failed c.add_line.new.sink) (file_line c.args.number) (Ok tt) =
    subst (λ (line : List ℕ). StaysInTransit {A = Unit {0}} (g.S.Sink.taken c.args.sink.now) c.args.lines.now (g.S.Sink.taken c.add_line.new.sink) c.add_line.new.lines (g.S.Sink.failed c.add_line.new.sink) line (Ok tt))
    (c.of_file.ensures ∙ ap file_line c.from.ensures) c.in_ok-add_line.ensures in
    let both : StaysInTransit {A = Unit {0}} old c.args.lines.now mid c.add_entries.new.lines was front (Ok tt) =
    stays_both old (g.S.Sink.taken c.add_line.new.sink) mid c.args.lines.now c.add_line.new.lines c.add_entries.new.lines (g.S.Sink.failed c.add_line.new.sink) was
    (file_line c.args.number) (numbered_texts entry_line 1 xs) front tt (Ok tt) first c.in_ok-add_entries.ensures refl in
    let last : StaysInTransit {A = Unit {0}} mid c.add_entries.new.lines (g.S.Sink.taken c.add_line-2.new.sink) c.add_line-2.new.lines (g.S.Sink.failed c.add_line-2.new.sink) (end_line c.mark.result (length xs)) c.add_line-2.result =
    subst (λ (line : List ℕ). StaysInTransit {A = Unit {0}} mid c.add_entries.new.lines (g.S.Sink.taken c.add_line-2.new.sink) c.add_line-2.new.lines (g.S.Sink.failed c.add_line-2.new.sink) line c.add_line-2.result) c.of_end-end.ensures c.add_line-2.ensures in
    stays_both old mid (g.S.Sink.taken c.add_line-2.new.sink) c.args.lines.now c.add_entries.new.lines c.add_line-2.new.lines was (g.S.Sink.failed c.add_line-2.new.sink)
    front (end_line c.mark.result (length xs)) (book_text c.args.number book) tt c.add_line-2.result both last
    (book_by_parts c.args.number book xs c.mark.result c.entries-entries.ensures c.mark.ensures)
