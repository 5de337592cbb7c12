-- What the stages tell together, under the run's choice, opener and tickets, since the links between them are settled.
use Rattle.std.proofs.Common.{◌∷◌, ◌++◌, [], refl, sym, ap, subst, ◌∙◌}
use Rattle.ruled_lanes.specs.LinkEnds.{taken}
use Rattle.ruled_lanes.specs.FanEnds.{given_at}
use Rattle.ruled_lanes.specs.TicketSeats.{drawn}
use Rattle.lanes.specs.declared.message.Message.TheVariants.{Stop}
use Rattle.lanes.specs.Notes.{notes}
use Rattle.lanes.specs.Stages.{IsHandedOn}
use Rattle.lanes.specs.Lanes.{TellsSeat}
use Rattle.lanes.proofs.Passing.{notes-after}
use Rattle.lanes.proofs.Dealing.{stage_tells}
use Rattle.lanes.proofs.run.Shared.run_stages.Goals as goal

pub run_until_stop-drew-requires-clause-none_told : goal.run_until_stop-drew-requires-clause-none_told
run_until_stop-drew-requires-clause-none_told g c = λ κs within. ap (notes g.L.Entry.Numbered.about) c.requires.0.none_given

pub returns-clause-told : goal.returns-clause-told
returns-clause-told g c =
    let meaning = g.O.Opener.meaning in
    let about = g.L.Entry.Numbered.about in
    let run = c.args.self.now.run.now in
    let started = c.in-Some-start_read in
    let promise = started.read.promise in
    let seat = c.in_ok-framed_giver.seat in
    let read = c.in_ok-framed_giver.ensures in
    let giver = c.run_until_stop-drew.new.to in
    let gave = given_at giver ++ Stop ∷ [] in
    -- with the stop, the last stage gives what it took
    let draws : IsHandedOn g.L.Shaped.Numbered.about about (taken c.in_ok-shaped.shaped) gave = record {
      same = notes-after about (given_at giver) _ Stop refl ∙ sym c.in_ok-shaped.ensures.told;
      stopped = (notes about (given_at giver), c.in_ok-shaped.ensures.told, c.run_until_stop-drew.ensures.goes_on);
    } in
    let told : TellsSeat about promise.choice (meaning promise.opener.value) promise.tickets.value seat gave = record {
      seat_of = read.tells.seat_of;
      ended = read.tells.ended;
      tells =
          stage_tells g.L.Shaped.Numbered.about about promise.choice (meaning promise.opener.value) (drawn seat) _ _ _ c.settle-3.ensures.settled draws
          (stage_tells g.L.Embedded.Numbered.about g.L.Shaped.Numbered.about promise.choice (meaning promise.opener.value) (drawn seat) _ _ _ c.settle-2.ensures.settled c.in_ok-embedded.ensures.passed
          (stage_tells g.L.Framed.Numbered.about g.L.Embedded.Numbered.about promise.choice (meaning promise.opener.value) (drawn seat) _ _ _ c.settle.ensures.settled c.in_ok-framed.ensures.passed
          read.tells.tells));
    } in
    subst (λ t. TellsSeat about run.choice (meaning run.opener.now) t seat gave) started.ensures.tickets
    (subst (λ o. TellsSeat about run.choice (meaning o) promise.tickets.value seat gave) started.ensures.opener
    (subst (λ x. TellsSeat about x (meaning promise.opener.value) promise.tickets.value seat gave) started.ensures.choice told))
