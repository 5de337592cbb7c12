use Rattle.std.proofs.Common.{All, take}
use Rattle.conditions.specs.Asking.{AreTurns, AreFew}
use Rattle.conditions.proofs.conditions.turns_of.Given as goal

abbrev pub invariant-loop-asked : goal.invariant-loop-asked
invariant-loop-asked l = record {
  are : AreTurns l.plane (take l.asked-index l.list) l.found.items;
  few : All AreFew l.found.items;
}
