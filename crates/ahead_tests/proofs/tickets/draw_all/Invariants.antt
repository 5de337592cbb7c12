use Rattle.ruled_lanes.specs.TicketSeats.{IsSeatOf}
use Rattle.ahead_tests.proofs.tickets.draw_all.Given as goal

abbrev pub invariant-loop : goal.invariant-loop
invariant-loop l = record { seat : IsSeatOf l.tickets l.seat }
