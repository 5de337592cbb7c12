use Rattle.command_line.proofs.Asking.{nothing_for_pick}
use Rattle.command_line.proofs.RangeTexts.{if_none}
use Rattle.command_line.proofs.request.pick_of.Goals as goal

pub returns-in_err-run-clause-none : goal.returns-in_err-run-clause-none
returns-in_err-run-clause-none c =
    if_none c.from_residual.result
    (nothing_for_pick c.args.words.now c.requires.command (λ pick asked. c.in_err-run.ensures.none asked.valid pick.run asked.asks_run))

pub returns-in_err-waiting-clause-none : goal.returns-in_err-waiting-clause-none
returns-in_err-waiting-clause-none c =
    if_none c.from_residual-in_err-waiting.result
    (nothing_for_pick c.args.words.now c.requires.command (λ pick asked. c.in_err-waiting.ensures.none pick.waiting asked.waiting_in asked.in_range))

pub returns-in_err-selection-clause-none : goal.returns-in_err-selection-clause-none
returns-in_err-selection-clause-none c =
    if_none c.from_residual-in_err-selection.result
    (nothing_for_pick c.args.words.now c.requires.command (λ pick asked. c.in_err-selection.ensures.none pick.selection asked.selected))
