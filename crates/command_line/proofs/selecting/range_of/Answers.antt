use Rattle.command_line.proofs.RangeTexts.{no_range_of}
use Rattle.command_line.proofs.selecting.range_of.Goals as goal

pub returns-in-Err-clause-none : goal.returns-in-Err-clause-none
returns-in-Err-clause-none c = no_range_of c.args.text c.in-Some.text c.in-Err.field-0 c.in-Some.is c.in-Err.ensures.fault
