use Rattle.file_order.proofs.SucceedsOrFails.{ok_both}
use Rattle.file_order.proofs.SucceedsOrFails.{err_both}
use Rattle.std.proofs.Common.{inl, inr}
use Rattle.collector.proofs.texts.TextsLinesConsumerPrintedKnownEnd.end.Goals as goal

pub returns-clause-taken : goal.returns-clause-taken
returns-clause-taken g c = ok_both c.end-taken.result c.end-taken.ensures.held c.end-taken.ensures.stands.stands (λ held stands ns was. (stands, held _ ns was.1))

pub returns-clause-gave_up : goal.returns-clause-gave_up
returns-clause-gave_up g c = err_both c.end-taken.result c.end-taken.ensures.stands.gave_up c.end-taken.ensures.partial (λ refusal gave partial. (gave, elim (partial _ c.requires.0 c.requires.1.1) [ inl left ↦ (_, left) | inr left ↦ (_, left) ]))
