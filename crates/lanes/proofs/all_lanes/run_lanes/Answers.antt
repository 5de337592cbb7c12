use Rattle.std.proofs.Common.{rules, ◌≡◌, true, vec_len, subst, arith}
use Rattle.ruled_lanes.specs.TicketSeats.{limit_of, has_ended, IsSeatOf}
use Rattle.lanes.specs.Running.{LeavesConsumer}
use Rattle.lanes.specs.Accepting.{AcceptsAll}
use Rattle.lanes.proofs.Seats.{drawn_once}
use Rattle.lanes.proofs.all_lanes.run_lanes.Goals as goal

pub returns-in-Ok-ended-clause-told : goal.returns-in-Ok-ended-clause-told
returns-in-Ok-ended-clause-told g c =
    let tickets = c.in-Ok.tickets in
    let all = subst (LeavesConsumer g.C.Consumer.holds g.C.Consumer.gave_up c.args.run.now.choice (g.O.Opener.meaning c.args.run.now.opener.now) tickets (vec_len c.in-Ok.seats) c.scoped-consumer.result.0)
    c.in-Ok-ended.is c.scoped-consumer.ensures.1.ended in
    let once = drawn_once (λ s. IsSeatOf tickets s × (has_ended s ≡ true)) c.in-Ok-ended.seats.items c.close.result (limit_of tickets) c.args.run.now.files (λ s is. is.1) all.1
    (omega (arith, all.0, c.in-Ok.ensures.seats.0, c.requires.some)) c.in-Ok.ensures.limits.0 c.close.ensures.each_once c.close.ensures.ended in
    (all.2.0, all.2.1, λ file below. all.2.2 file (once file below))

pub scoped-consumer-requires : goal.scoped-consumer-requires
unfolding AcceptsAll
scoped-consumer-requires g c = search rules
