use Rattle.std.proofs.Common.{◌≡◌, ◌++◌, ◌∙◌, List, Err, length, ap, subst, sym}
use Rattle.std.proofs.lemmas.Result.{err_from_is_err_and}
use Rattle.streams.specs.declared.output.WriteFault.{WriteFault}
use Rattle.streams.specs.declared.frames.Mark.{Mark}
use Rattle.reports.specs.declared.answer.Entry.{Entry}
use Rattle.reports.specs.Report.{numbered_texts}
use Rattle.reports.specs.Json.{entry_json, end_json, book_json}
use Rattle.reports.proofs.Lacks.{lacks_both, lacks_more}
use Rattle.reports.proofs.json_lines.add_book.Goals as goal

pub returns-in_err-add_entries : goal.returns-in_err-add_entries
returns-in_err-add_entries g c =
    let p = err_from_is_err_and c.from_residual.result c.from_residual.ensures.1 in
    let e = c.in_err-add_entries.field-0.0 in
    let is : c.from_residual.result ≡ Err e = subst (λ (e : WriteFault). c.from_residual.result ≡ Err e) p.2 p.1 in
    let file = c.args.file in
    let book = c.args.book.now in
    let xs = c.entries-entries.result.now in
    lacks_more (g.S.Sink.taken c.args.sink.now) (g.S.Sink.taken c.add_entries.new.sink) c.args.lines.now c.add_entries.new.lines (g.S.Sink.failed c.add_entries.new.sink)
    (numbered_texts (entry_json file) 1 xs) (end_json file book.mark (length book.entries)) (book_json file book) e c.from_residual.result c.in_err-add_entries.ensures
    (ap (λ (ys : List Entry). numbered_texts (entry_json file) 1 ys ++ end_json file book.mark (length book.entries)) (sym c.entries-entries.ensures)) is

pub returns : goal.returns
returns g c =
    let file = c.args.file in
    let book = c.args.book.now in
    let xs = c.entries-entries.result.now in
    lacks_both (g.S.Sink.taken c.args.sink.now) (g.S.Sink.taken c.add_entries.new.sink) (g.S.Sink.taken c.add_end.new.sink)
    c.args.lines.now c.add_entries.new.lines c.add_end.new.lines (g.S.Sink.failed c.add_entries.new.sink) (g.S.Sink.failed c.add_end.new.sink)
    (numbered_texts (entry_json file) 1 xs) (end_json file c.mark.result (length xs)) (book_json file book) tt c.add_end.result c.in_ok-add_entries.ensures c.add_end.ensures
    (ap (λ (ys : List Entry). numbered_texts (entry_json file) 1 ys ++ end_json file c.mark.result (length ys)) c.entries-entries.ensures
    ∙ ap (λ (m : Mark). numbered_texts (entry_json file) 1 book.entries ++ end_json file m (length book.entries)) c.mark.ensures)
