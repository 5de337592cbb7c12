use Rattle.compact.proofs.Relaxing.{IsRelaxedUpTo}
use Rattle.compact.proofs.axis.relax_all.Given as goal

abbrev pub invariant-loop-constraint : goal.invariant-loop-constraint
invariant-loop-constraint l = IsRelaxedUpTo l.constraints l.constraint-index l.fn.coordinates l.coordinates l.found
