-- Lanes that run, and those that do not.
use Rattle.std.specs.Prelude.{◌≡◌, ℕ, ◌+◌, ◌≤◌, List, [], ◌∷◌, All, true, Result, Ok, Err, Vec, vec_len, ⊤}
use Rattle.std.specs.declared.alloc.Global.{Global}
use Rattle.crossbeam_channel.specs.Ends.{sends_on, receives_on}
use Rattle.common.specs.declared.parameters.Choice.{Choice}
use Rattle.ruled_lanes.specs.declared.fan_channel.LaneGiver.{LaneGiver}
use Rattle.ruled_lanes.specs.declared.fan_channel.Gatherer.{Gatherer}
use Rattle.ruled_lanes.specs.declared.tickets.Tickets.{Tickets}
use Rattle.ruled_lanes.specs.declared.tickets.Seat.{Seat}
use Rattle.ruled_lanes.specs.declared.channel.Closed.{Closed}
use Rattle.ruled_lanes.specs.declared.channel.TheConstants.{LANES}
use Rattle.ruled_lanes.specs.FanEnds.{lane_of, given_at, gathered}
use Rattle.ruled_lanes.specs.TicketProtocol.{times}
use Rattle.ruled_lanes.specs.TicketSeats.{all_drawn, has_ended, IsSeatOf, IsUnused}
use Rattle.lanes.specs.declared.message.Message.{Message}
use Rattle.lanes.specs.Notes.{About, Note}
use Rattle.lanes.specs.Opening.{Meaning}
use Rattle.lanes.specs.Files.{HasFile}
use Rattle.lanes.specs.Lanes.{TellsSeat, LeavesLane}
use Rattle.lanes.specs.declared.gathering.RunFault.{RunFault}
use Rattle.lanes.specs.Faults.{HoldsOnFault}

-- each element fits its number; the first has this one
abbrev pub AreNumbered : {X : Type 0} → (ℕ → X → Type 0) → ℕ → List X → Type 0
AreNumbered fits number [] = ⊤
AreNumbered fits number (x ∷ xs) = fits number x × AreNumbered fits (number + 1) xs

-- each element of one list fits that of the other at the same place
abbrev pub AreMatched : {X Y : Type 0} → (X → Y → Type 0) → List X → List Y → Type 0
AreMatched fits [] [] = ⊤
AreMatched fits (x ∷ xs) (y ∷ ys) = fits x y × AreMatched fits xs ys
AreMatched fits _ _ = ⊥

module _ {E : Type 0} where
  -- it gives at this lane of the fan
  pub record GivesAt (fan : Gatherer E) (lane : ℕ) (giver : LaneGiver E) : Type 0 where
    pub to_fan : receives_on fan.receiver ≡ sends_on giver.sender
    pub at_lane : lane_of giver ≡ lane

  -- an idle lane gives at this lane of the fan, and has given nothing
  pub record IsIdle (fan : Gatherer E) (lane : ℕ) (giver : LaneGiver E) : Type 0 where
    pub gives_at : GivesAt fan lane giver
    pub none_given : given_at giver ≡ []

  -- the thread of this lane promises to give all, under this choice, of the files of this opener that a seat of these
  -- tickets draws
  pub record IsRunning {O : Type 0} (fan : Gatherer E) (choice : Choice) (opener : O) (tickets : Tickets) (lane : ℕ) (promised_choice : Choice) (promised_opener : O) (promised_tickets : Tickets) (giver : LaneGiver E) : Type 0 where
    pub gives_at : GivesAt fan lane giver
    pub same_choice : promised_choice ≡ choice
    pub same_opener : promised_opener ≡ opener
    pub same_tickets : promised_tickets ≡ tickets

module _ {E M : Type 0} where
  -- the thread of this lane has ended, and left what a lane leaves that was started with an end at this lane of the fan
  pub record HasEnded {R F : Type 0} (about : E → About) (fan : Gatherer (Message E M)) (choice : Choice) (meaning : ℕ → Meaning) (tickets : Tickets) (lane : ℕ) (after : LaneGiver (Message E M)) (stop : Result R (Closed (Message E M))) (seat : Result Seat F) : Type 0 where
    pub giver : LaneGiver (Message E M)
    pub gives_at : GivesAt fan lane giver
    pub leaves : LeavesLane about choice meaning tickets giver after stop seat

  -- a lane has given all of the files that its seat drew
  pub record HasRun (about : E → About) (choice : Choice) (meaning : ℕ → Meaning) (tickets : Tickets) (fan : Gatherer (Message E M)) (lane : ℕ) (giver : LaneGiver (Message E M)) (seat : Seat) : Type 0 where
    pub gives_at : GivesAt fan lane giver
    pub tells : TellsSeat about choice meaning tickets seat (given_at giver)

  -- this holds for consecutive lanes, the first of which has this number
  abbrev pub HaveRun : (E → About) → Choice → (ℕ → Meaning) → Tickets → Gatherer (Message E M) → ℕ → List (LaneGiver (Message E M)) → List Seat → Type 0
  HaveRun about choice meaning tickets fan lane [] [] = ⊤
  HaveRun about choice meaning tickets fan lane (giver ∷ givers) (seat ∷ seats) =
      HasRun about choice meaning tickets fan lane giver seat × HaveRun about choice meaning tickets fan (lane + 1) givers seats
  HaveRun about choice meaning tickets fan lane _ _ = ⊥

-- What a run does to a consumer, and which seats it returns: this many, all of these tickets, each of which has drawn
-- until none remained; then the consumer holds notes that say all of each file that was drawn once.
abbrev pub LeavesConsumer : {C F : Type 0} → (C → List Note → Type 0) → (C → RunFault F → Type 0) → Choice → (ℕ → Meaning) → Tickets → ℕ → C
    → Result (Vec Seat Global) (RunFault F) → Type 0
LeavesConsumer holds gave_up choice meaning tickets count consumer (Ok seats) =
    (vec_len seats ≡ count) × All (λ s. IsSeatOf tickets s × (has_ended s ≡ true)) seats.items
    × ((ns : List Note) × holds consumer ns
    × ((file : ℕ) → times file (all_drawn seats.items) ≡ 1 → HasFile choice (meaning file) file ns))
LeavesConsumer holds gave_up choice meaning tickets count consumer (Err fault) = HoldsOnFault (gave_up consumer) (holds consumer) fault

-- a run starts with seats of these tickets that have drawn nothing, the ends of an unused fan, a giver for each seat
-- and the others, and a consumer that holds nothing
pub record StartsRun {C E : Type 0} (holds : C → List Note → Type 0) (tickets : Tickets) (seats : Vec Seat Global) (givers idle : Vec (LaneGiver E) Global) (fan : Gatherer E) (consumer : C) : Type 0 where
  pub some : 1 ≤ vec_len seats
  pub each : vec_len givers ≡ vec_len seats
  pub seats_of : All (IsSeatOf tickets) seats.items
  pub unused : All IsUnused seats.items
  pub lanes : vec_len givers + vec_len idle ≡ LANES
  pub ready : AreNumbered (IsIdle fan) 0 givers.items
  pub rest : AreNumbered (IsIdle fan) (vec_len givers) idle.items
  pub none_gathered : gathered fan ≡ []
  pub empty : holds consumer []

-- a run leaves the part of the consumer that stays the same unchanged, does this to the rest, and returns these seats
pub record LeavesRun {C F : Type 0} (holds : C → List Note → Type 0) (gave_up : C → RunFault F → Type 0) (stays_same : C → C → Type 0) (choice : Choice) (meaning : ℕ → Meaning) (tickets : Tickets) (count : ℕ) (consumer after : C)
    (ran : Result (Vec Seat Global) (RunFault F)) : Type 0 where
  pub ended : LeavesConsumer holds gave_up choice meaning tickets count after ran
  pub stays : stays_same consumer after
