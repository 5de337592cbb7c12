use Rattle.std.proofs.Common.{◌∷◌, []}
use Rattle.lanes.specs.Notes.{Item}
use Rattle.lanes.proofs.Passing.{going_anyhow}
use Rattle.lanes.proofs.message.Filling.add.Goals as goal

pub returns-clause-going : goal.returns-clause-going
returns-clause-going g c = λ on.
    going_anyhow c.tell.result (g.O.Outlet.told c.give.new.to) (g.O.Outlet.told c.tell.new.self) (Item (g.O.Outlet.about c.args.item) ∷ []) c.tell.ensures.more c.tell.ensures.refused tt
    (c.give.ensures.going on)
