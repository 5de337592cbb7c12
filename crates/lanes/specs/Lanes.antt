-- The values that the threads of a lane return.
use Rattle.std.specs.Prelude.{◌≡◌, ◌++◌, ◌∷◌, ℕ, List, [], true, Result, IfOk, IfErr, OnOk}
use Rattle.common.specs.declared.parameters.Choice.{Choice}
use Rattle.ruled_lanes.specs.declared.link_channel.Giver.{Giver}
use Rattle.ruled_lanes.specs.declared.link_channel.Taker.{Taker}
use Rattle.ruled_lanes.specs.declared.fan_channel.LaneGiver.{LaneGiver}
use Rattle.ruled_lanes.specs.declared.tickets.Tickets.{Tickets}
use Rattle.ruled_lanes.specs.declared.tickets.Seat.{Seat}
use Rattle.ruled_lanes.specs.declared.channel.Closed.{Closed}
use Rattle.ruled_lanes.specs.HandedBack.{handed_back}
use Rattle.ruled_lanes.specs.LinkEnds.{given, taken, capacity_of, AreEnds, GivesToSame}
use Rattle.ruled_lanes.specs.FanEnds.{given_at, GivesToSameLane}
use Rattle.ruled_lanes.specs.TicketSeats.{drawn, has_ended, IsSeatOf, IsUnused}
use Rattle.streams.specs.declared.frames.Mark.{Mark}
use Rattle.streams.specs.declared.source.TheConstants.{PIECE}
use Rattle.lanes.specs.declared.message.Message.{Message}
use Rattle.lanes.specs.declared.message.Message.TheVariants.{Stop}
use Rattle.lanes.specs.Notes.{About, Note, End, notes, GoOn, IsStopped}
use Rattle.lanes.specs.Opening.{Meaning}
use Rattle.lanes.specs.Keeping.{KeepsFile}
use Rattle.lanes.specs.Files.{HasDrawn, TellsDrawn}

module _ {A : Type 0} where
  -- both ends of a link that has room for this many messages, and to which nothing was given
  pub record IsNewLink (capacity : ℕ) (giver : Giver A) (taker : Taker A) : Type 0 where
    pub room : capacity_of giver ≡ capacity
    pub ends : AreEnds giver taker
    pub none_given : given giver ≡ []
    pub none_taken : taken taker ≡ []

module _ {A M : Type 0} where
  -- a seat of these tickets has drawn until none remained, and the messages say all of the files it drew, under this
  -- choice
  pub record TellsSeat (about : A → About) (choice : Choice) (meaning : ℕ → Meaning) (tickets : Tickets) (seat : Seat) (gave : List (Message A M)) : Type 0 where
    pub seat_of : IsSeatOf tickets seat
    pub ended : has_ended seat ≡ true
    pub tells : TellsDrawn about choice meaning (drawn seat) gave

  -- the first stage starts with a seat of these tickets that has drawn nothing, a buffer for a piece, and the end of a
  -- link to which nothing was given
  pub record StartsToRead (tickets : Tickets) (seat : Seat) (room : ℕ) (giver : Giver (Message A M)) : Type 0 where
    pub seat_of : IsSeatOf tickets seat
    pub unused : IsUnused seat
    pub none_given : given giver ≡ []
    pub room_for : room ≡ PIECE

  -- a lane starts with a seat of these tickets that has drawn nothing, and an end of the fan, to which nothing was
  -- given
  pub record StartsLane (tickets : Tickets) (seat : Seat) (giver : LaneGiver (Message A M)) : Type 0 where
    pub seat_of : IsSeatOf tickets seat
    pub unused : IsUnused seat
    pub none_given : given_at giver ≡ []

  -- the end and the seat that the first stage returns: the end is that of the same link
  pub record ReadsSeat (about : A → About) (choice : Choice) (meaning : ℕ → Meaning) (tickets : Tickets) (giver after : Giver (Message A M)) (seat : Seat) : Type 0 where
    pub to_same : GivesToSame giver after
    pub tells : TellsSeat about choice meaning tickets seat (given after)

  -- a lane returns the end of the fan at its own number, where one stop came last, whatever happened in the lane, or
  -- none if a give of the stop was refused; and if it was not refused, its seat if nothing was lost
  pub record LeavesLane {R F : Type 0} (about : A → About) (choice : Choice) (meaning : ℕ → Meaning) (tickets : Tickets) (giver after : LaneGiver (Message A M)) (stop : Result R (Closed (Message A M))) (seat : Result Seat F) : Type 0 where
    pub to_same : GivesToSameLane giver after
    pub stopped : OnOk stop (IsStopped (notes about (given_at after)))
    pub refused : IfErr stop (λ closed. (handed_back closed ≡ Stop) × GoOn (notes about (given_at after)))
    pub tells : OnOk stop (IfOk seat (λ s. TellsSeat about choice meaning tickets s (given_at after)))

-- so far the notes say all of the files that were drawn, and there was no stop
pub record HasTold (choice : Choice) (meaning : ℕ → Meaning) (drawn : List ℕ) (ns : List Note) : Type 0 where
  pub going : GoOn ns
  pub told : HasDrawn choice meaning drawn ns

-- after the earlier notes come all those of a file with this meaning: its records and one end
pub record TellsFile (choice : Choice) (meaning : Meaning) (file : ℕ) (before after : List Note) : Type 0 where
  pub count : ℕ
  pub mark : Mark
  pub kept : List Note
  pub keeps : KeepsFile choice meaning file before kept count mark
  pub ended : after ≡ kept ++ End file mark ∷ []
