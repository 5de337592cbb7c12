use Rattle.std.proofs.Common.{◌≡◌, ◌+◌, ◌≤◌, ◌++◌, [], All, map, length, vec_len, vec_capacity}
use Rattle.ruled_lanes.specs.FanEnds.{given_at}
use Rattle.ruled_lanes.specs.TicketSeats.{IsSeatOf, IsUnused}
use Rattle.lanes.proofs.run.Shared.start_lanes.Given as goal

abbrev pub invariant-loop-giver : goal.invariant-loop-giver
invariant-loop-giver g l = record {
  each : vec_len l.seats ≡ length l.giver-iterator.rest.items;
  count : vec_len l.running + vec_len l.seats ≡ vec_len l.fn.seats;
  room : vec_len l.fn.seats ≤ vec_capacity l.running;
  none_given : All (λ giver. given_at giver ≡ []) l.giver-iterator.rest.items;
  givers : map (λ r. r.promise.giver.value) l.running.items ++ l.giver-iterator.rest.items ≡ l.fn.givers.items;
  choice : All (λ r. r.promise.choice ≡ l.self.run.now.choice) l.running.items;
  opener : All (λ r. r.promise.opener.value ≡ l.self.run.now.opener.now) l.running.items;
  tickets : All (λ r. r.promise.tickets.value ≡ l.self.tickets.now) l.running.items;
  sits : All (IsSeatOf l.self.tickets.now) l.seats.items;
  unused : All IsUnused l.seats.items;
}
