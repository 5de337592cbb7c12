use Rattle.std.proofs.Common.{ℕ, List, Bor, inr, subst, sym, vec_len, arith, inl, ◌∙◌}
use Rattle.std.proofs.lemmas.Result.{err_from_is_err_and}
use Rattle.named_sources.specs.Naming.{meanings_in}
use Rattle.collector.specs.declared.find_facts.Flaws.{Flaws}
use Rattle.collector.specs.Picked.{IsAllPicked, IsPickBegun}
use Rattle.commands.specs.Statuses.{TellsFlaws, error_output}
use Rattle.commands.proofs.Named.{as_asked, not_much, opened_as}
use Rattle.commands.proofs.PickFaults.{no_misuse, not_by_run}
use Rattle.commands.proofs.Picking.{text_of_picked}
use Rattle.commands.proofs.ReportBegun.{on_err}
use Rattle.commands.proofs.selection.pick.Goals as goal

pub returns-clause-written : goal.returns-clause-written
returns-clause-written g c =
    let asked = c.args.asked.now in
    let known = g.N.NamedFiles.meaning in
    let files = known c.args.files.now in
    let run = c.run_with-run.result in
    let named = c.in_ok-named.ensures in
    let old = g.S.Sink.taken c.args.out.now in
    let out = c.pick_files-outcome.new.sink in
    let err = error_output (g.E.Sink.taken c.args.err.now) (g.E.Sink.taken c.write_flaws.new.err) (g.E.Sink.failed c.write_flaws.new.err) in
    let flaws = c.as_slice-flaws.result.now in
    text_of_picked files err old (g.S.Sink.taken out) (g.S.Sink.failed out) flaws c.status_of_flaws.result
    c.in_ok-flaws.ensures.stands c.status_of_flaws.ensures.flawless c.status_of_flaws.ensures.other asked
    (subst (λ (fs : List Flaws). IsAllPicked asked.selection asked.run.choice (meanings_in files asked.run.names.items) (vec_len asked.run.names) old (g.S.Sink.taken out) fs)
    (sym c.as_slice-flaws.ensures.value)
    (as_asked (λ choice meaning count. IsAllPicked asked.selection choice meaning count old (g.S.Sink.taken out) c.in_ok-flaws.flaws.items)
    run.choice asked.run.choice (meanings_in (known run.opener.now.files.now) run.opener.now.names.now) (meanings_in files asked.run.names.items) run.files (vec_len asked.run.names)
    (c.run_with-run.ensures.choice ∙ named.choice)
    (opened_as known run.opener.now c.opener-opener.result c.args.files.now asked.run.names.items c.run_with-run.ensures.opener (c.opener-opener.ensures.files ∙ named.files) (c.opener-opener.ensures.names ∙ named.names))
    (c.run_with-run.ensures.files ∙ named.count) c.in_ok-flaws.ensures.written))
    (subst (λ (ns : List (Bor (List ℕ))). TellsFlaws err ns flaws) c.in_ok-named.ensures.names c.write_flaws.ensures)

pub returns-in_err-flaws-clause-begun : goal.returns-in_err-flaws-clause-begun
returns-in_err-flaws-clause-begun g c =
    let asked = c.args.asked.now in
    let known = g.N.NamedFiles.meaning in
    let files = known c.args.files.now in
    let run = c.run_with-run.result in
    let named = c.in_ok-named.ensures in
    let old = g.S.Sink.taken c.args.out.now in
    on_err c.from_residual-in_err-flaws.result (inr (
    as_asked (λ choice meaning count. ∥ IsPickBegun asked.selection choice meaning count old (g.S.Sink.taken c.pick_files-outcome.new.sink) ∥₁)
    run.choice asked.run.choice (meanings_in (known run.opener.now.files.now) run.opener.now.names.now) (meanings_in files asked.run.names.items) run.files (vec_len asked.run.names)
    (c.run_with-run.ensures.choice ∙ named.choice)
    (opened_as known run.opener.now c.opener-opener.result c.args.files.now asked.run.names.items c.run_with-run.ensures.opener (c.opener-opener.ensures.files ∙ named.files) (c.opener-opener.ensures.names ∙ named.names))
    (c.run_with-run.ensures.files ∙ named.count) c.in_err-flaws.ensures.begun))

pub returns-in_err-flaws-clause-too_many : goal.returns-in_err-flaws-clause-too_many
returns-in_err-flaws-clause-too_many g c = λ shown.
    let asked = c.args.asked.now.run in
    let named = c.in_ok-named.ensures in
    let never = not_much (vec_len asked.names) asked.lanes (omega (arith, named.few, named.count)) (omega (arith, named.some_lanes, named.lanes)) (omega (arith, named.few_lanes, named.lanes)) in
    let p = err_from_is_err_and c.from_residual-in_err-flaws.result c.from_residual-in_err-flaws.ensures.1 in
    not_by_run _ _ _ _ p.1 p.2 tt (λ many. never (inl many))

pub returns-in_err-flaws-clause-bad_lanes : goal.returns-in_err-flaws-clause-bad_lanes
returns-in_err-flaws-clause-bad_lanes g c = λ shown.
    let asked = c.args.asked.now.run in
    let named = c.in_ok-named.ensures in
    let never = not_much (vec_len asked.names) asked.lanes (omega (arith, named.few, named.count)) (omega (arith, named.some_lanes, named.lanes)) (omega (arith, named.few_lanes, named.lanes)) in
    let p = err_from_is_err_and c.from_residual-in_err-flaws.result c.from_residual-in_err-flaws.ensures.1 in
    not_by_run _ _ _ _ p.1 p.2 tt (λ bad. never (inr bad.0))

pub returns-in_err-flaws-clause-refused : goal.returns-in_err-flaws-clause-refused
returns-in_err-flaws-clause-refused g c =
    let p = err_from_is_err_and c.from_residual-in_err-flaws.result c.from_residual-in_err-flaws.ensures.1 in
    no_misuse _ _ _ _ p.1 p.2

pub returns-in_err-flaws-clause-refusable : goal.returns-in_err-flaws-clause-refusable
returns-in_err-flaws-clause-refusable g c =
    let p = err_from_is_err_and c.from_residual-in_err-flaws.result c.from_residual-in_err-flaws.ensures.1 in
    no_misuse _ _ _ _ p.1 p.2
