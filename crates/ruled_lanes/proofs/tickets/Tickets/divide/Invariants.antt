use Rattle.std.proofs.Common.{◌≡◌, ◌≤◌, ◌+◌, ◌-◌, [], length, All}
use Rattle.std.specs.Prelude.{vec_capacity}
use Rattle.ruled_lanes.specs.TicketProtocol.{draws}
use Rattle.ruled_lanes.specs.TicketSeats.{SitsAt, IsUnused}
use Rattle.ruled_lanes.proofs.tickets.Tickets.divide.Given as goal

abbrev pub invariant-loop-lane : goal.invariant-loop-lane
invariant-loop-lane l = record {
  room : l.lanes ≤ vec_capacity l.seats;
  many : length l.seats.items + 1 ≡ l._lane;
  table : l.pass.table_id ≡ l.table.shared.table_id;
  me : l.pass.me ≡ (draws l.table.shared.key.0 (l.lanes - length l.seats.items) 0 [], []);
  sits : All (SitsAt l.table.shared.table_id l.table.shared.key.0) l.seats.items;
  unused : All IsUnused l.seats.items;
}
