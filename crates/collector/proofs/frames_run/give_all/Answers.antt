use Rattle.std.proofs.Common.{[], ◌∷◌, ◌++◌, refl, sym, ap, ◌∙◌, subst, append_assoc}
use Rattle.ruled_lanes.specs.LinkEnds.{given}
use Rattle.collector.specs.declared.frames_run.ReadMessage.TheVariants.{Stop}
use Rattle.collector.specs.ReadMessage.{GiveRecords}
use Rattle.collector.proofs.frames_run.give_all.Goals as goal

pub returns-in-Ok-give-2 : goal.returns-in-Ok-give-2
returns-in-Ok-give-2 g c =
    let found = c.in-Ok.ensures.found in
    let front = given c.read_source.new.receiver.giver in
    let none = subst (λ messages. GiveRecords [] messages) (sym c.requires.none) refl in
    let all = c.in-Ok-give-2.ensures.ok ∙ ap (λ messages. messages ++ Stop ∷ []) c.in-Ok-give.ensures.ok ∙ append_assoc front _ _ in
    (c.in-Ok-give-2.ensures.link ∙ c.in-Ok-give.ensures.link ∙ c.in-Ok.ensures.stays, (found.0, c.in-Ok.end.mark, (front, all, found.1 [] none), found.3))
