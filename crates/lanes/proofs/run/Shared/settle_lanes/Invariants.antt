use Rattle.std.proofs.Common.{◌≡◌, ◌+◌, ◌≤◌, ◌++◌, List, All, true, length, vec_len, vec_capacity}
use Rattle.ruled_lanes.specs.declared.fan_channel.LaneGiver.{LaneGiver}
use Rattle.ruled_lanes.specs.TicketSeats.{has_ended, IsSeatOf}
use Rattle.lanes.specs.declared.message.Message.{Message}
use Rattle.lanes.specs.Running.{AreNumbered, HasEnded, HaveRun}
use Rattle.lanes.proofs.run.Shared.settle_lanes.Given as goal

abbrev pub invariant-loop-end : goal.invariant-loop-end
invariant-loop-end g l = record {
  ran : List (LaneGiver (Message g.row.E.Denot g.row.M.Denot));
  all : l.givers.items ≡ l.fn.givers.items ++ ran;
  run : HaveRun g.E.Numbered.about l.self.run.now.choice (g.O.Opener.meaning l.self.run.now.opener.now) l.self.tickets.now l.fn.gatherer 0 ran l.seats.items;
  rest : AreNumbered (λ lane end. HasEnded g.E.Numbered.about l.fn.gatherer l.self.run.now.choice (g.O.Opener.meaning l.self.run.now.opener.now) l.self.tickets.now lane end.giver end.stop end.seat) (vec_len l.seats) l.end-iterator.rest.items;
  room : vec_len l.fn.ended ≤ vec_capacity l.seats;
  room_of_givers : vec_len l.givers + length l.end-iterator.rest.items ≤ vec_capacity l.givers;
  count : vec_len l.seats + length l.end-iterator.rest.items ≡ vec_len l.fn.ended;
  seats : All (λ s. IsSeatOf l.self.tickets.now s × (has_ended s ≡ true)) l.seats.items;
}
