use Rattle.std.proofs.Common.{Some, ap, ◌∙◌, arith}
use Rattle.std.proofs.lemmas.List.Elements.{All-pop}
use Rattle.ruled_lanes.specs.TicketSeats.{SitsAt}
use Rattle.ruled_lanes.proofs.Deals.{joins}
use Rattle.ruled_lanes.proofs.Pools.{one_pooled}
use Rattle.ruled_lanes.proofs.tickets.Tickets.pool.Goals as goal

pub join_seat-requires : goal.join_seat-requires
join_seat-requires c =
    let seat = c.in-Some-pop.seat in
    let table = c.args.table.now.shared in
    let split = All-pop (SitsAt table.table_id table.key.0) c.loop-seat.seats.items c.pop-in-loop-seat.new.self.items (Some seat) c.in-Some-pop.ensures.items c.loop-seat.invariant.rest in
    (c.loop-seat.invariant.table, split.1.0, seat.idle, c.requires.words, joins _ _ _ _ _ c.loop-seat.invariant.some_share)

pub loop-seat-preserved : goal.loop-seat-preserved
loop-seat-preserved c =
    let was = c.loop-seat.invariant in
    let seat = c.in-Some-pop.seat in
    let table = c.args.table.now.shared in
    let split = All-pop (SitsAt table.table_id table.key.0) c.loop-seat.seats.items c.pop-in-loop-seat.new.self.items (Some seat) c.in-Some-pop.ensures.items was.rest in
    let me = c.join_seat.ensures.2 in
    let shares = ap (λ m. m.0.shares) me in record {
      table = c.join_seat.ensures.0 ∙ was.table;
      idle = ap (λ m. m.1) me ∙ was.idle;
      some_share = omega arith;
      rest = split.0;
      pooled = one_pooled _ c.loop-seat.seats.items _ seat c.loop-seat.pass.me.0 _ c.in-Some-pop.ensures.items (ap (λ m. m.0) me) was.pooled;
    }
