-- The faults by which a request is refused.
use Rattle.std.specs.Prelude.{⊤}
use Rattle.streams.specs.declared.output.BatchFault.TheVariants.{TooManyFiles, BadLanes}
use Rattle.command_line.specs.declared.fault.Fault.{Fault}
use Rattle.command_line.specs.declared.fault.Fault.TheVariants.{Memory, NotText, BadWaiting, Terminal, Run, Write}

-- the request is refused
abbrev pub IsMisuse : Fault → Type 0
IsMisuse (NotText argument) = ⊤
IsMisuse BadWaiting = ⊤
IsMisuse Terminal = ⊤
IsMisuse (Run TooManyFiles) = ⊤
IsMisuse (Run BadLanes) = ⊤
IsMisuse (Run _) = ⊥
IsMisuse Memory = ⊥
IsMisuse (Write fault) = ⊥
