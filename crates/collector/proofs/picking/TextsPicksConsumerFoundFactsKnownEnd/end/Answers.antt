use Rattle.file_order.proofs.SucceedsOrFails.{ok_both, err_both}
use Rattle.collector.proofs.picking.TextsPicksConsumerFoundFactsKnownEnd.end.Goals as goal

pub end-taken-requires-clause-even : goal.end-taken-requires-clause-even
end-taken-requires-clause-even g c = c.requires.1.1.are.flaws_count

pub returns-clause-taken : goal.returns-clause-taken
returns-clause-taken g c = ok_both c.end-taken.result c.end-taken.ensures.held c.end-taken.ensures.stands.stands (λ held stands ns was. (stands, held _ ns was.1))

pub returns-clause-gave_up : goal.returns-clause-gave_up
returns-clause-gave_up g c = err_both c.end-taken.result c.end-taken.ensures.stands.gave_up c.end-taken.ensures.partial (λ refusal gave partial. (gave, partial _ c.requires.0 c.requires.1.1))
