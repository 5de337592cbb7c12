use Rattle.std.proofs.Common.{◌∷◌, ◌++◌, [], ap, sym, ◌∙◌}
use Rattle.lanes.specs.Notes.{notes_of, notes_of_items, Item, End}
use Rattle.lanes.proofs.Passing.{going_told, passed_on}
use Rattle.lanes.proofs.stage.run_until_stop.Goals as goal

pub loop-preserved-in-Continue-branch-3 : goal.loop-preserved-in-Continue-branch-3
loop-preserved-in-Continue-branch-3 g c =
    let about = g.A.Numbered.about in
    let told = c.in_ok-tell-in-Item.ensures.more ∙ ap (λ a. g.O.Outlet.told c.loop.to ++ Item (a c.work_on-next.result) ∷ []) c.requires.about in
    record {
      from_same = c.take.ensures.link ∙ c.loop.invariant.from_same;
      stays = g.met.O.Outlet.stays_on _ _ _ c.loop.invariant.stays c.tell.ensures.stays;
      same = passed_on about _ _ (g.O.Outlet.told c.loop.to) (g.O.Outlet.told c.tell.new.self) _ (Item (g.A.Next.Numbered.about c.work_on-next.result) ∷ [])
          c.loop.invariant.same c.in_ok-item.ensures.ok told
          (ap (λ a. Item a ∷ []) c.work_on-next.ensures.told ∙ ap (notes_of about) (sym c.in-Item.is));
      none = c.work_on-next.ensures.same ∙ c.loop.invariant.none;
      going = going_told (g.O.Outlet.told c.loop.to) (g.O.Outlet.told c.tell.new.self) (Item (g.A.Next.Numbered.about c.work_on-next.result) ∷ []) told tt c.loop.invariant.going;
    }

pub loop-preserved-in-Continue-branch-4 : goal.loop-preserved-in-Continue-branch-4
loop-preserved-in-Continue-branch-4 g c =
    let about = g.A.Numbered.about in
    record {
      from_same = c.take.ensures.link ∙ c.loop.invariant.from_same;
      stays = g.met.O.Outlet.stays_on _ _ _ c.loop.invariant.stays c.work_on_batch.ensures.stays;
      same = passed_on about _ _ (g.O.Outlet.told c.loop.to) (g.O.Outlet.told c.work_on_batch.new.to) _ (notes_of_items about c.in-Items.batch.items.items)
          c.loop.invariant.same c.in_ok-item.ensures.ok c.in_ok-work_on_batch-in-Items.ensures.told (ap (notes_of about) (sym c.in-Items.is));
      none = c.in_ok-work_on_batch-in-Items.ensures.none;
      going = c.work_on_batch.ensures.going c.loop.invariant.going;
    }

pub loop-preserved : goal.loop-preserved
loop-preserved g c =
    let about = g.A.Numbered.about in
    record {
      from_same = c.take.ensures.link ∙ c.loop.invariant.from_same;
      stays = g.met.O.Outlet.stays_on _ _ _ c.loop.invariant.stays c.tell-in-End.ensures.stays;
      same = passed_on about _ _ (g.O.Outlet.told c.loop.to) (g.O.Outlet.told c.tell-in-End.new.self) _ (End c.in-End.file c.in-End.mark ∷ [])
          c.loop.invariant.same c.in_ok-item.ensures.ok c.in_ok-tell-in-End.ensures.more (ap (notes_of about) (sym c.in-End.is));
      none = c.loop.invariant.none;
      going = going_told (g.O.Outlet.told c.loop.to) (g.O.Outlet.told c.tell-in-End.new.self) (End c.in-End.file c.in-End.mark ∷ []) c.in_ok-tell-in-End.ensures.more tt c.loop.invariant.going;
    }

pub returns-in_err-tell-in-Item-clause-stays : goal.returns-in_err-tell-in-Item-clause-stays
returns-in_err-tell-in-Item-clause-stays g c = g.met.O.Outlet.stays_on _ _ _ c.loop.invariant.stays c.tell.ensures.stays

pub returns-in_err-work_on_batch-in-Items-clause-stays : goal.returns-in_err-work_on_batch-in-Items-clause-stays
returns-in_err-work_on_batch-in-Items-clause-stays g c = g.met.O.Outlet.stays_on _ _ _ c.loop.invariant.stays c.work_on_batch.ensures.stays

pub returns-in_err-tell-in-End-clause-stays : goal.returns-in_err-tell-in-End-clause-stays
returns-in_err-tell-in-End-clause-stays g c = g.met.O.Outlet.stays_on _ _ _ c.loop.invariant.stays c.tell-in-End.ensures.stays
