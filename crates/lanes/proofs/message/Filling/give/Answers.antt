use Rattle.std.proofs.Common.{◌∷◌, []}
use Rattle.lanes.specs.Notes.{Item, notes_of_items}
use Rattle.lanes.proofs.Passing.{going_items, going_anyhow}
use Rattle.lanes.proofs.message.Filling.give.Goals as goal

pub returns-in-Some-clause-going : goal.returns-in-Some-clause-going
returns-in-Some-clause-going g c =
    going_anyhow c.tell.result (g.O.Outlet.told c.args.to.now) (g.O.Outlet.told c.tell.new.self) (Item (g.O.Outlet.about c.in-Some.item) ∷ []) c.tell.ensures.more c.tell.ensures.refused tt

pub returns-clause-going : goal.returns-clause-going
returns-clause-going g c =
    let items = c.replace-items.result.items in
    going_anyhow c.tell-2.result (g.O.Outlet.told c.args.to.now) (g.O.Outlet.told c.tell-2.new.self) (notes_of_items g.O.Outlet.about items) c.tell-2.ensures.more c.tell-2.ensures.refused
    (going_items g.O.Outlet.about items)
