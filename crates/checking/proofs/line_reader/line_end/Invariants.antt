use Rattle.std.proofs.Common.{take}
use Rattle.checking.specs.Lines.{IsNoEnd}
use Rattle.checking.proofs.line_reader.line_end.Given as goal

abbrev pub invariant-loop-i : goal.invariant-loop-i
invariant-loop-i l = IsNoEnd (take l.i l.bytes)
