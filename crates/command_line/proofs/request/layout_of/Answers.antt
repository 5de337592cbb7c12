use Rattle.command_line.proofs.Asking.{nothing_for_layout, passes_not}
use Rattle.command_line.proofs.RangeTexts.{if_none}
use Rattle.command_line.proofs.request.layout_of.Goals as goal

pub returns-in_err-run-clause-none : goal.returns-in_err-run-clause-none
returns-in_err-run-clause-none c =
    if_none c.from_residual.result
    (nothing_for_layout c.args.words.now c.requires.command (λ layout asked. c.in_err-run.ensures.none asked.valid layout.run asked.asks_run))

pub returns-in_err-waiting-clause-none : goal.returns-in_err-waiting-clause-none
returns-in_err-waiting-clause-none c =
    if_none c.from_residual-in_err-waiting.result
    (nothing_for_layout c.args.words.now c.requires.command (λ layout asked. c.in_err-waiting.ensures.none layout.waiting asked.waiting_in asked.in_range))

pub returns-then-lacks_json-clause-none : goal.returns-then-lacks_json-clause-none
returns-then-lacks_json-clause-none c =
    nothing_for_layout c.args.words.now c.requires.command (λ layout asked.
    let lacks = c.lacks_json.ensures.lacks c.if-lacks_json.true in
    passes_not _ (asked.needs_json lacks.0) lacks.1)
