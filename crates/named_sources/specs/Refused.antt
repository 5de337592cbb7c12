-- Files that are not opened, without the system's reason.
use Rattle.std.specs.Prelude.{Result, Ok, Err}
use Rattle.lanes.specs.declared.run.OpenFault.{OpenFault}
use Rattle.named_sources.specs.declared.source.Refused.{Refused}

-- the outcome of an open, of whose refusal only the fault is kept
abbrev pub by_fault : {S : Type 0} → Result S Refused → Result S OpenFault
by_fault (Ok source) = Ok source
by_fault (Err refused) = Err refused.fault
