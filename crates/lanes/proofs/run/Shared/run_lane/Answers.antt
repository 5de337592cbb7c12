-- The lane's stop comes last.
use Rattle.std.specs.Prelude.{Result, Ok, Err, OnOk, OnErr, IfOk, IfErr}
use Rattle.std.proofs.Common.{◌≡◌, ◌∷◌, ◌++◌, [], List, sym, subst, ◌∙◌}
use Rattle.ruled_lanes.specs.FanEnds.{given_at}
use Rattle.ruled_lanes.specs.declared.channel.Closed.{Closed}
use Rattle.ruled_lanes.specs.HandedBack.{handed_back}
use Rattle.lanes.specs.declared.message.Message.{Message}
use Rattle.lanes.specs.declared.message.Message.TheVariants.{Stop}
use Rattle.lanes.specs.Notes.{About, notes, GoOn, IsStopped}
use Rattle.lanes.proofs.Passing.{notes-after}
use Rattle.lanes.specs.Lanes.{TellsSeat}
use Rattle.lanes.proofs.run.Shared.run_lane.Goals as goal

module _ {A M : Type 0} where
  ends_stopped : {R E : Type 0} (about : A → About) (before after : List (Message A M)) (stop : Result R E) → GoOn (notes about before) → OnOk stop (after ≡ before ++ Stop ∷ [])
      → OnOk stop (IsStopped (notes about after))
  ends_stopped about before after (Ok _) on more = (notes about before, notes-after about before after Stop more, on)
  ends_stopped about before after (Err _) on more = tt

  goes_on_refused : {R : Type 0} (about : A → About) (before after : List (Message A M)) (stop : Result R (Closed (Message A M))) → GoOn (notes about before) → OnErr stop (after ≡ before)
      → IfErr stop (λ closed. handed_back closed ≡ Stop) → IfErr stop (λ closed. (handed_back closed ≡ Stop) × GoOn (notes about after))
  goes_on_refused about before after (Ok _) on same back = tt
  goes_on_refused about before after (Err _) on same back = (back, subst (λ ms. GoOn (notes about ms)) (sym same) on)

  told_stopped : {R E S F : Type 0} (before after : List (Message A M)) (stop : Result R E) (seat : Result S F) (tells : S → List (Message A M) → Type 0) → OnOk stop (after ≡ before ++ Stop ∷ [])
      → IfOk seat (λ s. tells s (before ++ Stop ∷ [])) → OnOk stop (IfOk seat (λ s. tells s after))
  told_stopped before after (Ok _) seat tells more told = subst (λ ms. IfOk seat (λ s. tells s ms)) (sym more) told
  told_stopped before after (Err _) seat tells more told = tt

pub returns : goal.returns
returns g c =
    let about = g.L.Entry.Numbered.about in
    let before = given_at c.run_stages-seat.new.giver in
    let after = given_at c.give-stop.new.self in
    let stop = c.give-stop.result in
    record {
      to_same = (c.give-stop.ensures.lane.0 ∙ c.run_stages-seat.ensures.same.0, c.give-stop.ensures.lane.1 ∙ c.run_stages-seat.ensures.same.1);
      stopped = ends_stopped about before after stop c.run_stages-seat.ensures.goes_on c.give-stop.ensures.ok;
      refused = goes_on_refused about before after stop c.run_stages-seat.ensures.goes_on c.give-stop.ensures.refused c.give-stop.ensures.item;
      tells = told_stopped before after stop c.run_stages-seat.result
          (λ s ms. TellsSeat about c.args.self.now.run.now.choice (g.O.Opener.meaning c.args.self.now.run.now.opener.now) c.args.self.now.tickets.now s ms)
          c.give-stop.ensures.ok c.run_stages-seat.ensures.told;
    }
