use Rattle.geometry.proofs.Frontiers.{IsFrontier}
use Rattle.geometry.proofs.plane_sweep.sweep_with_table.Given as goal

abbrev pub invariant-loop-rectangle : goal.invariant-loop-rectangle
invariant-loop-rectangle l = IsFrontier l.frontier.items l.rectangles l.rectangle-index
