use Rattle.std.proofs.Common.{rules, ◌∷◌, [], ◌++◌, ap, sym, ◌∙◌, append_assoc}
use Rattle.lanes.proofs.Passing.{worked_more}
use Rattle.lanes.proofs.stage.RunningStage.work_on_batch.Goals as goal

pub loop-item-preserved : goal.loop-item-preserved
loop-item-preserved g c =
    let inv = c.loop-item.invariant in
    record {
      can = search rules;
      finite = search rules;
      left = inv.left ∙ ap (λ l. c.loop-item.yielded ++ l) c.in-Some.ensures.steps.0 ∙ sym (append_assoc c.loop-item.yielded (c.in-Some.item ∷ []) _);
      told = worked_more g.A.Numbered.about g.O.Outlet.about _ _ _ _ _ _ c.loop-item.yielded c.in-Some.item c.work_on-next.result
          c.work_on-next.ensures.same (ap (λ f. f c.work_on-next.result) c.requires.about ∙ c.work_on-next.ensures.told) inv.told c.in_ok-add.ensures.told;
      going = λ on. c.add.ensures.going (inv.going on);
      stays = g.met.O.Outlet.stays_on _ _ _ inv.stays c.add.ensures.stays;
    }
