-- The messages that a stage of a lane gives.
use Rattle.std.specs.Prelude.{◌≡◌, List}
use Rattle.ruled_lanes.specs.declared.link_channel.Giver.{Giver}
use Rattle.ruled_lanes.specs.declared.link_channel.Taker.{Taker}
use Rattle.ruled_lanes.specs.LinkEnds.{given, taken, GivesToSame, TakesFromSame}
use Rattle.lanes.specs.declared.message.Message.{Message}
use Rattle.lanes.specs.Notes.{About, notes, IsStopped}

module _ {A B M : Type 0} where
  -- what was given is about the same as what was taken, in order, up to one stop
  pub record IsHandedOn (about : A → About) (next_about : B → About) (took : List (Message A M)) (gave : List (Message B M)) : Type 0 where
    pub same : notes next_about gave ≡ notes about took
    pub stopped : IsStopped (notes about took)

  -- the ends that a stage returns are those of its links, and it passed on all messages
  pub record HandedOnAll (about : A → About) (next_about : B → About) (taker : Taker (Message A M)) (giver : Giver (Message B M)) (took : Taker (Message A M)) (gave : Giver (Message B M)) : Type 0 where
    pub from_same : TakesFromSame taker took
    pub to_same : GivesToSame giver gave
    pub passed : IsHandedOn about next_about (taken took) (given gave)
