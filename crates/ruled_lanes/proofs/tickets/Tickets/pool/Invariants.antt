use Rattle.std.proofs.Common.{◌≡◌, ◌<◌, [], length, All}
use Rattle.ruled_lanes.specs.TicketSeats.{SitsAt}
use Rattle.ruled_lanes.proofs.Pools.{HasPooled}
use Rattle.ruled_lanes.proofs.tickets.Tickets.pool.Given as goal

abbrev pub invariant-loop-seat : goal.invariant-loop-seat
invariant-loop-seat l = record {
  table : l.pass.table_id ≡ l.table.shared.table_id;
  idle : l.pass.me.1 ≡ [];
  some_share : 0 < l.pass.me.0.shares;
  rest : All (SitsAt l.table.shared.table_id l.table.shared.key.0) l.seats.items;
  pooled : HasPooled l.fn.seats.items l.seats.items l.pass.me.0;
}

abbrev pub decreases-loop-seat : goal.decreases-loop-seat
decreases-loop-seat l = length l.seats.items
