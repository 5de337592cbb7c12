use Rattle.std.proofs.Common.{◌≡◌, [], vec_len}
use Rattle.streams.specs.declared.source.TheConstants.{PIECE}
use Rattle.ruled_lanes.specs.LinkEnds.{given, GivesToSame}
use Rattle.ruled_lanes.specs.TicketSeats.{drawn, IsSeatOf}
use Rattle.lanes.specs.Notes.{notes}
use Rattle.lanes.specs.Lanes.{HasTold}
use Rattle.lanes.proofs.run.Shared.run_read_stage.Given as goal

abbrev pub invariant-loop : goal.invariant-loop
invariant-loop g l = record {
  room : vec_len l.buffer ≡ PIECE;
  seat : IsSeatOf l.self.tickets.now l.seat;
  to_same : GivesToSame l.fn.reading.giver l.gives.giver;
  none : l.gives.filling.items.items ≡ [];
  told : HasTold l.self.run.now.choice (g.O.Opener.meaning l.self.run.now.opener.now) (drawn l.seat) (notes g.L.Framed.Numbered.about (given l.gives.giver));
}
