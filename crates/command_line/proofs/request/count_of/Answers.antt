use Rattle.std.proofs.Common.{◌∙◌, ap}
use Rattle.command_line.specs.Requests.{columns_of}
use Rattle.command_line.proofs.Asking.{nothing_for_count}
use Rattle.command_line.proofs.RangeTexts.{if_none, not_there}
use Rattle.command_line.proofs.request.count_of.Goals as goal

pub returns-in_err-run-clause-none : goal.returns-in_err-run-clause-none
returns-in_err-run-clause-none c =
    if_none c.from_residual.result
    (nothing_for_count c.args.words.now c.requires.command (λ count asked. c.in_err-run.ensures.none asked.valid count.run asked.asks_run))

pub returns-in_err-selection-clause-none : goal.returns-in_err-selection-clause-none
returns-in_err-selection-clause-none c =
    if_none c.from_residual-in_err-selection.result
    (nothing_for_count c.args.words.now c.requires.command (λ count asked. c.in_err-selection.ensures.none count.selection asked.selected))

pub returns-in_err-columns-clause-none : goal.returns-in_err-columns-clause-none
returns-in_err-columns-clause-none c =
    if_none c.from_residual-in_err-columns.result
    (nothing_for_count c.args.words.now c.requires.command (λ count asked.
    not_there count.columns _ (c.in_err-columns.ensures ∙ ap columns_of c.setting_text.ensures) asked.columns_in))
