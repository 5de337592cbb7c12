-- The knowledge of the ends of a fan.
use Rattle.std.specs.Prelude.{◌≡◌, ◌≤◌, ℕ, List, [], ◌++◌, Some, slice_get, All}
use Rattle.crossbeam_channel.specs.Claims.{view}
use Rattle.crossbeam_channel.specs.Ends.{sends_on, receives_on, ruled_capacity}
use Rattle.ruled_lanes.specs.declared.channel.TheConstants.{LANES}
use Rattle.ruled_lanes.specs.declared.fan_channel.LaneGiver.{LaneGiver}
use Rattle.ruled_lanes.specs.declared.fan_channel.Gatherer.{Gatherer}
use Rattle.ruled_lanes.specs.FanProtocol.{given_in, of_lane}

module _ {T : Type 0} where
  -- the number of its lane
  abbrev pub lane_of : LaneGiver T → ℕ
  lane_of g = g.lane

  -- all that was given at its lane, first to last
  abbrev pub given_at : LaneGiver T → List T
  given_at g = given_in (view g.pass)

  -- all items that were taken, first to last, each with the number of its lane
  abbrev pub gathered : Gatherer T → List (ℕ × T)
  gathered f = (view f.pass).taken

  -- the maximum number of items that the fan holds
  abbrev pub capacity_of_fan : Gatherer T → ℕ
  capacity_of_fan f = ruled_capacity (receives_on f.receiver)

  -- they give to the fan of this gatherer
  abbrev pub AreGiversOf : Gatherer T → List (LaneGiver T) → Type 0
  AreGiversOf f givers = All (λ g. receives_on f.receiver ≡ sends_on g.sender) givers

  -- each giver is listed at the number of its lane
  abbrev pub StandInOrder : List (LaneGiver T) → Type 0
  StandInOrder givers = (k : ℕ) (g : LaneGiver T) → slice_get givers k ≡ Some g → lane_of g ≡ k

  -- afterwards it gives to the fan and the lane that it gave to before
  abbrev pub GivesToSameLane : LaneGiver T → LaneGiver T → Type 0
  GivesToSameLane before after = (sends_on after.sender ≡ sends_on before.sender) × (lane_of after ≡ lane_of before)

  -- afterwards it takes from the fan that it took from before
  abbrev pub TakesFromSameFan : Gatherer T → Gatherer T → Type 0
  TakesFromSameFan before after = receives_on after.receiver ≡ receives_on before.receiver

  -- for each giver's lane, what was taken, followed by what the fan held, is what was given; and nothing was taken or
  -- held of a lane that the fan does not have
  abbrev pub SettlesFan : List (ℕ × T) → List (LaneGiver T) → Type 0
  SettlesFan taken givers = (held : List (ℕ × T))
      × All (λ g. of_lane (lane_of g) taken ++ of_lane (lane_of g) held ≡ given_at g) givers
      × ((lane : ℕ) → LANES ≤ lane → (of_lane lane taken ≡ []) × (of_lane lane held ≡ []))
