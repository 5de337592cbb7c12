use Rattle.std.proofs.Common.{OnOk, ◌∙◌, rules, subst}
use Rattle.std.specs.Io.KnownBytes.{Appends}
use Rattle.commands.proofs.FlawTexts.{has_failed, last_added, last_failed, line_of_mark, mark_text, seven_added}
use Rattle.commands.proofs.ReportBegun.{on_err}
use Rattle.commands.proofs.runs.write_incomplete.Goals as goal

pub returns-in_err-put_all-clause-failed : goal.returns-in_err-put_all-clause-failed
returns-in_err-put_all-clause-failed g c = on_err c.from_residual.result (has_failed _ _ _ _ _ c.in_err-put_all.ensures)

pub returns-in_err-put_all-2-clause-failed : goal.returns-in_err-put_all-2-clause-failed
returns-in_err-put_all-2-clause-failed g c = on_err c.from_residual-in_err-put_all-2.result (has_failed _ _ _ _ _ c.in_err-put_all-2.ensures)

pub returns-in_err-put_all-3-clause-failed : goal.returns-in_err-put_all-3-clause-failed
returns-in_err-put_all-3-clause-failed g c = on_err c.from_residual-in_err-put_all-3.result (has_failed _ _ _ _ _ c.in_err-put_all-3.ensures)

pub returns-in_err-put_all-4-clause-failed : goal.returns-in_err-put_all-4-clause-failed
returns-in_err-put_all-4-clause-failed g c = on_err c.from_residual-in_err-put_all-4.result (has_failed _ _ _ _ _ c.in_err-put_all-4.ensures)

pub returns-in_err-put_all-5-clause-failed : goal.returns-in_err-put_all-5-clause-failed
returns-in_err-put_all-5-clause-failed g c = on_err c.from_residual-in_err-put_all-5.result (has_failed _ _ _ _ _ c.in_err-put_all-5.ensures)

pub returns-in_err-put_all-6-clause-failed : goal.returns-in_err-put_all-6-clause-failed
returns-in_err-put_all-6-clause-failed g c = on_err c.from_residual-in_err-put_all-6.result (has_failed _ _ _ _ _ c.in_err-put_all-6.ensures)

pub returns-clause-added : goal.returns-clause-added
returns-clause-added g c =
    subst (λ t. OnOk c.put_all-7.result (Appends (g.E.Sink.taken c.args.err.now) (g.E.Sink.taken c.put_all-7.new.sink) t))
    (mark_text c.args.name.now c.mark_word.result.now c.args.why.now c.as_bytes.result.now c.as_bytes-2.result.now c.as_bytes-3.result.now (search rules) (search rules) (search rules)
    ∙ line_of_mark c.args.name.now c.args.mark c.mark_word.result.now c.args.why.now (search rules) c.mark_word.ensures.word)
    (seven_added c.put_all-7.result _ _ _ _ _ _ _ _ _ _ _ _ _ _ _ c.in_ok-put_all.ensures.1 c.in_ok-put_all-2.ensures.1 c.in_ok-put_all-3.ensures.1 c.in_ok-put_all-4.ensures.1
    c.in_ok-put_all-5.ensures.1 c.in_ok-put_all-6.ensures.1 (last_added _ _ _ _ _ c.put_all-7.ensures))

pub returns-clause-failed : goal.returns-clause-failed
returns-clause-failed g c = last_failed _ _ _ _ _ c.put_all-7.ensures
