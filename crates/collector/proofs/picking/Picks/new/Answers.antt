use Rattle.std.proofs.Common.{◌∙◌, sym}
use Rattle.collector.specs.declared.picking.Picks.{Picks}
use Rattle.collector.proofs.PicksHeld.{held_none}
use Rattle.collector.proofs.picking.Picks.new.Goals as goal

pub returns-clause-held : goal.returns-clause-held
returns-clause-held c = λ meaning start.
    let order = c.in_ok-order.order in
    let begun = c.in_ok-order.ensures in
    let picks : Picks = record { selection = c.args.selection; choice = c.args.choice; order = order; flaws = c.in_ok-flaws.flaws } in
    held_none meaning start picks begun.current begun.empty (begun.buffer ∙ c.as_slice.ensures)
    (c.in_ok-flaws.ensures.count ∙ sym begun.count) c.in_ok-flaws.ensures.none
