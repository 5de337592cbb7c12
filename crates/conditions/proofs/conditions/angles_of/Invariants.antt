use Rattle.std.proofs.Common.{take}
use Rattle.conditions.specs.Asking.{AreAngles}
use Rattle.conditions.proofs.conditions.angles_of.Given as goal

abbrev pub invariant-loop-asked : goal.invariant-loop-asked
invariant-loop-asked l = AreAngles l.plane (take l.asked-index l.list) l.found.items
