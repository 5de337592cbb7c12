use Rattle.std.proofs.Common.{inr, vec_len, arith, inl, ◌∙◌}
use Rattle.std.proofs.lemmas.Result.{err_from_is_err_and}
use Rattle.named_sources.specs.Naming.{meanings_in}
use Rattle.commands.specs.Statuses.{IsTextOfBooks}
use Rattle.commands.specs.TextRuns.{IsBegun}
use Rattle.commands.proofs.Layouts.{laid_out}
use Rattle.commands.proofs.Named.{as_asked, not_much, opened_as}
use Rattle.commands.proofs.PickFaults.{no_misuse, not_by_run}
use Rattle.commands.proofs.ReportBegun.{on_err}
use Rattle.commands.proofs.layout.layout.Goals as goal

pub returns-clause-written : goal.returns-clause-written
returns-clause-written g c =
    let asked = c.args.asked.now in
    let known = g.N.NamedFiles.meaning in
    let files = known c.args.files.now in
    let run = c.run_with-run.result in
    let named = c.in_ok-named.ensures in
    let old = g.S.Sink.taken c.args.out.now in
    let form = asked.style.form in
    let out = c.write_text-outcome.new.sink in
    let status = c.in_ok-status.status in
    as_asked (λ choice meaning count. IsTextOfBooks choice form meaning count old (g.S.Sink.taken out) (g.S.Sink.failed out) status)
    run.choice asked.run.choice (meanings_in (known run.opener.now.files.now) run.opener.now.names.now) (meanings_in files asked.run.names.items) run.files (vec_len asked.run.names)
    (c.run_with-run.ensures.choice ∙ named.choice)
    (opened_as known run.opener.now c.opener-opener.result c.args.files.now asked.run.names.items c.run_with-run.ensures.opener (c.opener-opener.ensures.files ∙ named.files) (c.opener-opener.ensures.names ∙ named.names))
    (c.run_with-run.ensures.files ∙ named.count)
    (laid_out run.choice (meanings_in (known run.opener.now.files.now) run.opener.now.names.now) form run.files old (g.S.Sink.taken out) (g.S.Sink.failed out) status
    c.in_ok-status.ensures.written c.in_ok-status.ensures.stands c.in_ok-status.ensures.status)

pub returns-in_err-status-clause-begun : goal.returns-in_err-status-clause-begun
returns-in_err-status-clause-begun g c =
    let asked = c.args.asked.now in
    let known = g.N.NamedFiles.meaning in
    let files = known c.args.files.now in
    let run = c.run_with-run.result in
    let named = c.in_ok-named.ensures in
    let old = g.S.Sink.taken c.args.out.now in
    on_err c.from_residual-in_err-status.result (inr (
    as_asked (λ choice meaning count. ∥ IsBegun choice meaning asked.style.form count old (g.S.Sink.taken c.write_text-outcome.new.sink) ∥₁)
    run.choice asked.run.choice (meanings_in (known run.opener.now.files.now) run.opener.now.names.now) (meanings_in files asked.run.names.items) run.files (vec_len asked.run.names)
    (c.run_with-run.ensures.choice ∙ named.choice)
    (opened_as known run.opener.now c.opener-opener.result c.args.files.now asked.run.names.items c.run_with-run.ensures.opener (c.opener-opener.ensures.files ∙ named.files) (c.opener-opener.ensures.names ∙ named.names))
    (c.run_with-run.ensures.files ∙ named.count) c.in_err-status.ensures.begun))

pub returns-in_err-status-clause-too_many : goal.returns-in_err-status-clause-too_many
returns-in_err-status-clause-too_many g c =
    let asked = c.args.asked.now.run in
    let named = c.in_ok-named.ensures in
    let never = not_much (vec_len asked.names) asked.lanes (omega (arith, named.few, named.count)) (omega (arith, named.some_lanes, named.lanes)) (omega (arith, named.few_lanes, named.lanes)) in
    let p = err_from_is_err_and c.from_residual-in_err-status.result c.from_residual-in_err-status.ensures.1 in
    not_by_run _ _ _ _ p.1 p.2 tt (λ many. never (inl many))

pub returns-in_err-status-clause-bad_lanes : goal.returns-in_err-status-clause-bad_lanes
returns-in_err-status-clause-bad_lanes g c =
    let asked = c.args.asked.now.run in
    let named = c.in_ok-named.ensures in
    let never = not_much (vec_len asked.names) asked.lanes (omega (arith, named.few, named.count)) (omega (arith, named.some_lanes, named.lanes)) (omega (arith, named.few_lanes, named.lanes)) in
    let p = err_from_is_err_and c.from_residual-in_err-status.result c.from_residual-in_err-status.ensures.1 in
    not_by_run _ _ _ _ p.1 p.2 tt (λ bad. never (inr bad.0))

pub returns-in_err-status-clause-refused : goal.returns-in_err-status-clause-refused
returns-in_err-status-clause-refused g c =
    let p = err_from_is_err_and c.from_residual-in_err-status.result c.from_residual-in_err-status.ensures.1 in
    no_misuse _ _ _ _ p.1 p.2

pub returns-in_err-status-clause-refusable : goal.returns-in_err-status-clause-refusable
returns-in_err-status-clause-refusable g c =
    let p = err_from_is_err_and c.from_residual-in_err-status.result c.from_residual-in_err-status.ensures.1 in
    no_misuse _ _ _ _ p.1 p.2
