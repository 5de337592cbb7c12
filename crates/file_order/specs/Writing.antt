-- Texts that go on to a sink, and how that fails.
use Rattle.std.specs.Prelude.{◌≡◌, ℕ, Bool, true, false, List, ◌++◌, Option, Result, OnOk, IfErr, ⊤}
use Rattle.streams.specs.declared.output.SinkFault.{SinkFault}
use Rattle.streams.specs.Sink.{AppendsPrefix, IsInTransit}
use Rattle.lanes.specs.declared.gathering.RunFault.{RunFault}
use Rattle.lanes.specs.declared.gathering.RunFault.TheVariants.{Memory, LaneLost, Thread, Refused}

-- The sink has failed exactly if the message was refused for that. Otherwise memory ran out, or no lane gives such a
-- message.
abbrev pub GivesUp : Bool → RunFault SinkFault → Type 0
GivesUp failed (Refused fault) = failed ≡ true
GivesUp failed Memory = failed ≡ false
GivesUp failed LaneLost = failed ≡ false
GivesUp failed Thread = ⊥

-- the sink has failed exactly if a run of lanes failed for that
abbrev pub HasFailedBy : Bool → RunFault SinkFault → Type 0
HasFailedBy failed (Refused fault) = failed ≡ true
HasFailedBy failed Memory = failed ≡ false
HasFailedBy failed LaneLost = failed ≡ false
HasFailedBy failed Thread = failed ≡ false

-- the sink has not failed where all went well, and otherwise exactly if the message was refused for that
pub record TellsFailure {A : Type 0} (failed : Bool) (result : Result A (RunFault SinkFault)) : Type 0 where
  pub stands : OnOk result (failed ≡ false)
  pub gave_up : IfErr result (GivesUp failed)

-- the sink refused a text: there is no other fault
abbrev pub IsRefused : RunFault SinkFault → Type 0
IsRefused (Refused fault) = ⊤
IsRefused Memory = ⊥
IsRefused LaneLost = ⊥
IsRefused Thread = ⊥

-- whatever text was in transit, it is now in transit followed by `more`
abbrev pub GoesOn : Option (List ℕ) → List ℕ → Option (List ℕ) → List ℕ → List ℕ → Type 0
GoesOn old waited new waits more = (start : Option (List ℕ)) (text : List ℕ) → IsInTransit start old waited text → IsInTransit start new waits (text ++ more)

-- whatever text was in transit, a prefix of it followed by `more` was added
abbrev pub IsPartlyAdded : Option (List ℕ) → List ℕ → Option (List ℕ) → List ℕ → Type 0
IsPartlyAdded old waited new more = (start : Option (List ℕ)) (text : List ℕ) → IsInTransit start old waited text → AppendsPrefix start new (text ++ more)
