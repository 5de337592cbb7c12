use Rattle.std.proofs.Common.{◌<◌, ℕ}
use Rattle.geometry.proofs.Holdings.{at}
use Rattle.geometry.proofs.plane_sweep.table_height.Given as goal

abbrev pub invariant-loop-rectangle : goal.invariant-loop-rectangle
invariant-loop-rectangle l = (m : ℕ) → m < l.rectangle-index → (at l.rectangles m).top < l.height
