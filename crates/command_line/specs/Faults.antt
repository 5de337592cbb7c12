-- The fault of the program for that of a run.
use Rattle.streams.specs.declared.output.BatchFault.TheVariants as batch
use Rattle.streams.specs.declared.output.WriteFault.TheVariants as write
use Rattle.streams.specs.declared.output.SinkFault.{SinkFault}
use Rattle.lanes.specs.declared.gathering.RunFault.{RunFault}
use Rattle.lanes.specs.declared.gathering.RunFault.TheVariants.{Memory, LaneLost, Thread, Refused}
use Rattle.command_line.specs.declared.fault.Fault.{Fault}
use Rattle.command_line.specs.declared.fault.Fault.TheVariants.{Run, Write}

-- the fault of the program if a run of lanes failed whose consumer writes to a sink
abbrev pub fault_of : RunFault SinkFault → Fault
fault_of Memory = Run batch.Memory
fault_of LaneLost = Run batch.LaneLost
fault_of Thread = Run batch.Thread
fault_of (Refused fault) = Write write.Write
