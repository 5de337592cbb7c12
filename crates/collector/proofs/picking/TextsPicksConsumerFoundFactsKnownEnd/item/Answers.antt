use Rattle.file_order.proofs.SucceedsOrFails.{ok_both, err_both}
use Rattle.collector.proofs.picking.TextsPicksConsumerFoundFactsKnownEnd.item.Goals as goal

pub item-taken-requires-clause-even : goal.item-taken-requires-clause-even
item-taken-requires-clause-even g c = c.requires.1.1.are.flaws_count

pub returns-clause-taken : goal.returns-clause-taken
returns-clause-taken g c = ok_both c.item-taken.result c.item-taken.ensures.held c.item-taken.ensures.stands.stands (λ held stands ns was. (stands, held _ ns was.1))

pub returns-clause-gave_up : goal.returns-clause-gave_up
returns-clause-gave_up g c = err_both c.item-taken.result c.item-taken.ensures.stands.gave_up c.item-taken.ensures.partial (λ refusal gave partial. (gave, partial _ c.requires.0 c.requires.1.1))
