use Rattle.std.proofs.Common.{rules, ◌∷◌, [], ◌++◌, ap, sym, subst, ◌∙◌, append_assoc}
use Rattle.lanes.specs.Notes.{Item, notes_of_items}
use Rattle.lanes.proofs.Passing.{items-more}
use Rattle.lanes.proofs.gathering.take_in.Goals as goal

pub item-requires : goal.item-requires
item-requires g c =
    let inv = c.loop-item.invariant in (c.requires.0 ++ notes_of_items g.E.Numbered.about c.loop-item.yielded, inv.taken c.requires.0 c.requires.1)

pub loop-item-preserved : goal.loop-item-preserved
loop-item-preserved g c =
    let inv = c.loop-item.invariant in
    let about = g.E.Numbered.about in
    record {
      can = search rules;
      finite = search rules;
      left = inv.left ∙ ap (λ l. c.loop-item.yielded ++ l) c.in-Some.ensures.steps.0 ∙ sym (append_assoc c.loop-item.yielded (c.in-Some.item ∷ []) _);
      taken = λ ns held.
          subst (g.C.Consumer.holds c.item.new.self)
          (append_assoc ns (notes_of_items about c.loop-item.yielded) (Item (about c.in-Some.item) ∷ []) ∙ ap (λ l. ns ++ l) (sym (items-more about c.loop-item.yielded c.in-Some.item)))
          (c.in_ok-item.ensures.taken _ (inv.taken ns held));
      stays = g.met.C.Consumer.stays_on _ _ _ inv.stays c.item.ensures.stays;
    }
