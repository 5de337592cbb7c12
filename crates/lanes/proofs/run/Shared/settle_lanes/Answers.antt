use Rattle.std.proofs.Common.{rules, ◌≡◌, ◌+◌, ◌++◌, ◌∷◌, [], All, length, true, vec_len, arith, refl, ap, sym, subst, ◌∙◌, append-nil, append_assoc, length-append}
use Rattle.std.proofs.lemmas.List.Elements.{All-nil, All-push}
use Rattle.ruled_lanes.specs.FanEnds.{gathered}
use Rattle.ruled_lanes.specs.TicketSeats.{has_ended, IsSeatOf}
use Rattle.lanes.specs.Running.{HasRun, HaveRun}
use Rattle.lanes.proofs.RunningLanes.{all_givers, run_more, ended_run, many_ran, numbered_as}
use Rattle.lanes.proofs.Merging.{settled_whole}
use Rattle.lanes.proofs.run.Shared.settle_lanes.Goals as goal

pub loop-end-init : goal.loop-end-init
loop-end-init g c = record {
  ran = [];
  all = c.reserve.ensures.items ∙ sym (append-nil _);
  run = subst (HaveRun g.E.Numbered.about c.args.self.now.run.now.choice (g.O.Opener.meaning c.args.self.now.run.now.opener.now) c.args.self.now.tickets.now c.args.gatherer 0 []) (sym c.in_ok-seats.ensures.items) tt;
  rest = numbered_as _ 0 _ _ _ (omega (arith, c.in_ok-seats.ensures.len)) (sym c.into_iter-end-iterator.ensures.into_iter_gives.0) c.requires.ended;
  room = omega (arith, c.in_ok-seats.ensures.capacity);
  room_of_givers = omega (arith, c.in_ok-reserve.ensures.ok, ap length c.into_iter-end-iterator.ensures.into_iter_gives.0);
  count = omega (arith, c.in_ok-seats.ensures.len, ap length c.into_iter-end-iterator.ensures.into_iter_gives.0);
  seats = subst (All (λ s. IsSeatOf c.args.self.now.tickets.now s × (has_ended s ≡ true))) (sym c.in_ok-seats.ensures.items) (All-nil (λ s. IsSeatOf c.args.self.now.tickets.now s × (has_ended s ≡ true)));
}

pub loop-end-preserved : goal.loop-end-preserved
loop-end-preserved g c =
    let about = g.E.Numbered.about in
    let meaning = g.O.Opener.meaning in
    let seat = c.in_ok-seat.seat in
    let giver = c.in-Some.end.giver in
    let seats = c.push_reserved.ensures in
    let givers = c.push_reserved-in-loop-end.ensures in
    let inv = c.loop-end.invariant in
    let before = c.loop-end.seats.items in
    let many : vec_len c.loop-end.seats ≡ 0 + length before = omega arith in
    let rest = numbered_as _ (vec_len c.loop-end.seats) (0 + length before) _ _ many c.in-Some.ensures.steps.0 inv.rest in
    let has : HasRun about c.args.self.now.run.now.choice (meaning c.args.self.now.run.now.opener.now) c.args.self.now.tickets.now c.args.gatherer (0 + length before) giver seat =
    ended_run about _ _ _ _ _ c.in-Some.end.giver giver c.in-Some.end.stop c.in-Some.end.seat tt seat rest.0 refl c.in_ok-stop.was c.in_ok-seat.was in
    record {
      ran = inv.ran ++ giver ∷ [];
      all = givers.items ∙ ap (λ l. l ++ giver ∷ []) inv.all ∙ append_assoc c.args.givers.items inv.ran (giver ∷ []);
      run = subst (HaveRun about c.args.self.now.run.now.choice (meaning c.args.self.now.run.now.opener.now) c.args.self.now.tickets.now c.args.gatherer 0 (inv.ran ++ giver ∷ [])) (sym seats.items)
          (run_more about c.args.self.now.run.now.choice (meaning c.args.self.now.run.now.opener.now) c.args.self.now.tickets.now c.args.gatherer 0 inv.ran before giver seat inv.run has);
      rest = numbered_as _ (0 + length before + 1) _ _ _ (omega (arith, many, seats.len)) refl rest.1;
      room = omega (arith, inv.room, seats.capacity);
      room_of_givers = omega (arith, inv.room_of_givers, ap length c.in-Some.ensures.steps.0, givers.len, givers.capacity);
      count = omega (arith, inv.count, ap length c.in-Some.ensures.steps.0, seats.len);
      seats = subst (All (λ s. IsSeatOf c.args.self.now.tickets.now s × (has_ended s ≡ true))) (sym seats.items)
          (All-push (λ s. IsSeatOf c.args.self.now.tickets.now s × (has_ended s ≡ true)) before seat inv.seats (has.tells.seat_of, has.tells.ended));
    }

pub push_reserved-requires : goal.push_reserved-requires
push_reserved-requires g c =
    let inv = c.loop-end.invariant in omega (arith, inv.count, inv.room, ap length c.in-Some.ensures.steps.0)

pub push_reserved-requires-in-loop-end : goal.push_reserved-requires-in-loop-end
push_reserved-requires-in-loop-end g c =
    let inv = c.loop-end.invariant in omega (arith, inv.room_of_givers, ap length c.in-Some.ensures.steps.0)

pub settle-requires-clause-some : goal.settle-requires-clause-some
settle-requires-clause-some g c =
    let inv = c.loop-end.invariant in
    let many : vec_len c.loop-end.seats ≡ vec_len c.args.ended = search rules in
    let each = many_ran g.E.Numbered.about _ _ _ _ _ _ _ inv.run in
    omega (arith, ap length inv.all, length-append c.args.givers.items inv.ran, each, many, c.requires.some)

pub settle-requires-clause-fan : goal.settle-requires-clause-fan
settle-requires-clause-fan g c =
    all_givers g.E.Numbered.about c.args.self.now.run.now.choice (g.O.Opener.meaning c.args.self.now.run.now.opener.now) c.args.self.now.tickets.now c.args.gatherer (vec_len c.args.ended) c.loop-end.givers.items c.args.givers.items
    c.loop-end.invariant.ran c.loop-end.seats.items c.loop-end.invariant.all c.requires.idle c.loop-end.invariant.run

pub returns-clause-told : goal.returns-clause-told
returns-clause-told g c =
    let inv = c.loop-end.invariant in
    let many : vec_len c.loop-end.seats ≡ vec_len c.args.ended = search rules in
    settled_whole g.E.Numbered.about c.args.self.now.run.now.choice (g.O.Opener.meaning c.args.self.now.run.now.opener.now) c.args.self.now.tickets.now c.args.gatherer (gathered c.args.gatherer) c.loop-end.givers.items c.args.givers.items
    inv.ran c.loop-end.seats.items (vec_len c.args.ended) inv.all (omega (arith, many)) (omega (arith, c.requires.lanes)) inv.run c.requires.idle c.settle.ensures.settled c.requires.stopped
