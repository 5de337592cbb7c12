use Rattle.std.proofs.Common.{◌↔◌, drop}
use Rattle.embedding.specs.Wide.{AreLists}
use Rattle.embedding.proofs.wide_record.are_lists.Given as goal

-- the entries that are left decide
abbrev pub invariant-loop-i : goal.invariant-loop-i
invariant-loop-i l = AreLists l.entries l.count ↔ AreLists (drop l.i l.entries) l.remaining
