use Rattle.std.proofs.Common.{◌∙◌, inr, sym, refl, codes, true≢false}
use Rattle.command_line.proofs.Asking.{no_help_asked, one_beginning, pick_begins, version_begins}
use Rattle.commands.proofs.Judged.{judged_for}
use Rattle.commands.proofs.Refusing.{each_refusable, no_request, of_records}
use Rattle.commands.proofs.program.command.Goals as goal

pub returns-in-Ok-clause-judged : goal.returns-in-Ok-clause-judged
returns-in-Ok-clause-judged g c = λ four. judged_for _ _ c.in-Ok.request _ _ _ c.in-Ok.ensures.asked (c.perform.ensures.judged four)

pub returns-in-Ok-clause-refusable : goal.returns-in-Ok-clause-refusable
returns-in-Ok-clause-refusable g c = λ two request asked. each_refusable _ _ c.in-Ok.request request c.in-Ok.ensures.asked (c.perform.ensures.refusable two) asked

pub returns-in-Ok-clause-help : goal.returns-in-Ok-clause-help
returns-in-Ok-clause-help g c = λ version help. absurd (true≢false (sym help ∙ no_help_asked _ c.in-Ok.request c.in-Ok.ensures.asked))

pub returns-then-asks-clause-for_terminal : goal.returns-then-asks-clause-for_terminal
returns-then-asks-clause-for_terminal g c = λ terminal pick help.
    absurd (one_beginning c.args.words.now (codes "--version") (codes "pick") refl
    (version_begins c.args.words.now (sym c.asks.ensures ∙ c.if-asks.true)) (pick_begins c.args.words.now pick))

pub returns-in-Ok-clause-for_terminal : goal.returns-in-Ok-clause-for_terminal
returns-in-Ok-clause-for_terminal g c = λ terminal pick help.
    let both = c.perform.ensures.for_terminal terminal (of_records _ c.in-Ok.request pick c.in-Ok.ensures.asked) in
    (both.0, inr both.1)

pub returns-then-asks-clause-too_much : goal.returns-then-asks-clause-too_much
returns-then-asks-clause-too_much g c = λ request asked refusable.
    absurd (no_request c.args.words.now (sym c.asks.ensures ∙ c.if-asks.true) request asked)

pub returns-in-Ok-clause-too_much : goal.returns-in-Ok-clause-too_much
returns-in-Ok-clause-too_much g c = λ request asked refusable.
    let two = c.perform.ensures.too_much (each_refusable _ _ request c.in-Ok.request asked refusable c.in-Ok.ensures.asked) in
    (c.perform.ensures.refused two, inr two)
