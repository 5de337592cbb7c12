use Rattle.conditions.specs.Chosen.{IsGreatestSoFar}
use Rattle.conditions.proofs.chosen.greatest_open.Given as goal

abbrev pub invariant-loop-face : goal.invariant-loop-face
invariant-loop-face l = IsGreatestSoFar l.plane l.barred l.face l.best
