use mathlib.Core.Bool.{beq}
use Rattle.std.proofs.Common.{◌≡◌, ◌∷◌, [], false, true≢false, ap, arith, sym, subst, ◌∙◌}
use Rattle.lanes.specs.Notes.{notes_of, notes_of_items, Item, End, Stop}
use Rattle.lanes.specs.Fans.{AreStops}
use Rattle.lanes.proofs.Stopping.{stops_more, stop_noted, all_stopped, told_more}
use Rattle.lanes.proofs.gathering.gather.Goals as goal

pub loop-preserved-in-Continue-branch-4 : goal.loop-preserved-in-Continue-branch-4
loop-preserved-in-Continue-branch-4 g c =
    let about = g.E.Numbered.about in
    record {
      lanes = c.loop.invariant.lanes;
      fan = c.next_message.ensures.fan ∙ c.loop.invariant.fan;
      stops = stops_more about _ _ _ _ c.in_ok-item.ensures.ok c.loop.invariant.stops;
      told = subst (g.C.Consumer.holds c.item.new.self)
          (sym (told_more about _ _ _ _ c.in_ok-item.ensures.ok
          (ap (notes_of about) c.in_default-Item.is-1 ∙ ap (λ i. Item (about i) ∷ []) (sym c.in_default-Item.item-is))))
          (c.in_ok-item-in_default-Item.ensures.taken _ (c.in_ok-item.ensures.kept _ c.loop.invariant.told));
      stays = g.met.C.Consumer.stays_on _ _ _ (g.met.C.Consumer.stays_on _ _ _ c.loop.invariant.stays c.next_message.ensures.stays) c.item.ensures.stays;
    }

pub loop-preserved-in-Continue-branch-5 : goal.loop-preserved-in-Continue-branch-5
loop-preserved-in-Continue-branch-5 g c =
    let about = g.E.Numbered.about in
    record {
      lanes = c.loop.invariant.lanes;
      fan = c.next_message.ensures.fan ∙ c.loop.invariant.fan;
      stops = stops_more about _ _ _ _ c.in_ok-item.ensures.ok c.loop.invariant.stops;
      told = subst (g.C.Consumer.holds c.take_in.new.consumer)
          (sym (told_more about _ _ _ _ c.in_ok-item.ensures.ok
          (ap (notes_of about) c.in_default-Items.is-1 ∙ ap (λ b. notes_of_items about b.items.items) (sym c.in_default-Items.batch-is))))
          (c.in_ok-take_in-in_default-Items.ensures.taken _ (c.in_ok-item.ensures.kept _ c.loop.invariant.told));
      stays = g.met.C.Consumer.stays_on _ _ _ (g.met.C.Consumer.stays_on _ _ _ c.loop.invariant.stays c.next_message.ensures.stays) c.take_in.ensures.stays;
    }

pub loop-preserved-in-Continue-branch-6 : goal.loop-preserved-in-Continue-branch-6
loop-preserved-in-Continue-branch-6 g c =
    let about = g.E.Numbered.about in
    record {
      lanes = c.loop.invariant.lanes;
      fan = c.next_message.ensures.fan ∙ c.loop.invariant.fan;
      stops = stops_more about _ _ _ _ c.in_ok-item.ensures.ok c.loop.invariant.stops;
      told = subst (g.C.Consumer.holds c.end.new.self)
          (sym (told_more about _ _ _ (End c.in_default-End.file c.in_default-End.mark ∷ []) c.in_ok-item.ensures.ok (ap (notes_of about) c.in_default-End.is-1)))
          (c.in_ok-end-in_default-End.ensures.taken _ (c.in_ok-item.ensures.kept _ c.loop.invariant.told));
      stays = g.met.C.Consumer.stays_on _ _ _ (g.met.C.Consumer.stays_on _ _ _ c.loop.invariant.stays c.next_message.ensures.stays) c.end.ensures.stays;
    }

pub returns-then-not-contains-clause-stopped : goal.returns-then-not-contains-clause-stopped
returns-then-not-contains-clause-stopped g c =
    let about = g.E.Numbered.about in
    all_stopped about _ (λ y. beq y false ≡ false) (λ e. true≢false e) _ _ (omega (arith, c.deref.ensures.len, c.set_stopped.ensures.count, c.loop.invariant.lanes)) c.if-not-contains.ensures.cases
    (subst (AreStops about _) (sym c.deref.ensures.value)
    (stop_noted about _ _ _ _ _ c.in_ok-item.ensures.ok c.in_default-Stop.is-1 c.set_stopped.ensures.noted c.loop.invariant.stops))

pub returns-then-not-contains-clause-told : goal.returns-then-not-contains-clause-told
returns-then-not-contains-clause-told g c =
    let about = g.E.Numbered.about in
    subst (g.C.Consumer.holds c.next_message.new.consumer)
    (sym (told_more about _ _ _ (Stop ∷ []) c.in_ok-item.ensures.ok (ap (notes_of about) c.in_default-Stop.is-1)))
    (g.met.C.Consumer.holds_on _ _ (c.in_ok-item.ensures.kept _ c.loop.invariant.told))

pub loop-preserved : goal.loop-preserved
loop-preserved g c =
    let about = g.E.Numbered.about in
    record {
      lanes = c.set_stopped.ensures.count ∙ c.loop.invariant.lanes;
      fan = c.next_message.ensures.fan ∙ c.loop.invariant.fan;
      stops = stop_noted about _ _ _ _ _ c.in_ok-item.ensures.ok c.in_default-Stop.is-1 c.set_stopped.ensures.noted c.loop.invariant.stops;
      told = subst (g.C.Consumer.holds c.next_message.new.consumer)
          (sym (told_more about _ _ _ (Stop ∷ []) c.in_ok-item.ensures.ok (ap (notes_of about) c.in_default-Stop.is-1)))
          (g.met.C.Consumer.holds_on _ _ (c.in_ok-item.ensures.kept _ c.loop.invariant.told));
      stays = g.met.C.Consumer.stays_on _ _ _ c.loop.invariant.stays c.next_message.ensures.stays;
    }

pub returns-in_err-take_in-in_default-Items-clause-stays : goal.returns-in_err-take_in-in_default-Items-clause-stays
returns-in_err-take_in-in_default-Items-clause-stays g c = g.met.C.Consumer.stays_on _ _ _ (g.met.C.Consumer.stays_on _ _ _ c.loop.invariant.stays c.next_message.ensures.stays) c.take_in.ensures.stays

pub returns-in_err-end-in_default-End-clause-stays : goal.returns-in_err-end-in_default-End-clause-stays
returns-in_err-end-in_default-End-clause-stays g c = g.met.C.Consumer.stays_on _ _ _ (g.met.C.Consumer.stays_on _ _ _ c.loop.invariant.stays c.next_message.ensures.stays) c.end.ensures.stays
