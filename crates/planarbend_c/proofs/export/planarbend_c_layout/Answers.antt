use Rattle.std.proofs.Common.{◌∙◌, ap}
use Rattle.planarbend_c.specs.Codes.{code_of}
use Rattle.planarbend_c.proofs.export.planarbend_c_layout.Goals as goal

pub returns-clause-outcome : goal.returns-clause-outcome
returns-clause-outcome c = (c.answer.result, c.code.ensures, c.answer.ensures.outcome)

pub returns-clause-refused : goal.returns-clause-refused
returns-clause-refused c isnt = c.answer.ensures.refused (λ is. isnt (c.code.ensures ∙ ap code_of is))

pub returns-clause-uncounted : goal.returns-clause-uncounted
returns-clause-uncounted c laid room = c.answer.ensures.uncounted (λ is. laid (c.code.ensures ∙ ap code_of is)) (λ is. room (c.code.ensures ∙ ap code_of is))

pub returns-clause-uncut : goal.returns-clause-uncut
returns-clause-uncut c isnt = c.answer.ensures.uncut (λ is. isnt (c.code.ensures ∙ ap code_of is))
