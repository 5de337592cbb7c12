use Rattle.ortho_rep.specs.Tries.{AreBounds}
use Rattle.ortho_rep.proofs.best.bends_and_bounds.Given as goal

abbrev pub invariant-loop-face : goal.invariant-loop-face
invariant-loop-face l = AreBounds l.plane l.bounds
