-- Why a run of lanes failed, and what is known of its consumer then.
use Rattle.std.specs.Prelude.{◌⊎◌, List, ⊤}
use Rattle.lanes.specs.declared.gathering.RunFault.{RunFault}
use Rattle.lanes.specs.declared.gathering.RunFault.TheVariants.{Memory, LaneLost, Thread, Refused}
use Rattle.lanes.specs.Notes.{Note}
use Rattle.streams.specs.declared.output.SinkFault.{SinkFault}
use Rattle.streams.specs.declared.output.WriteFault.{WriteFault}
use Rattle.streams.specs.declared.output.WriteFault.TheVariants as write

-- the fault of a run whose consumer could not write its text for this reason
abbrev pub run_fault_of : WriteFault → RunFault SinkFault
run_fault_of write.Write = Refused (record {})
run_fault_of write.Memory = Memory

module _ {F : Type 0} where
  -- the lanes may fail so, also if the consumer refused nothing
  abbrev pub IsOfLanes : RunFault F → Type 0
  IsOfLanes (Refused refusal) = ⊥
  IsOfLanes _ = ⊤

  -- It refused a message with this fault, and this is known of that; or the lanes failed, and it holds some notes.
  abbrev pub HoldsOnFault : (RunFault F → Type 0) → (List Note → Type 0) → RunFault F → Type 0
  HoldsOnFault gave_up holds fault = gave_up fault ⊎ (IsOfLanes fault × ((ns : List Note) × holds ns))
