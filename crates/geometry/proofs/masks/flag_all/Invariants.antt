use Rattle.geometry.proofs.Flagging.{AreFlagged}
use Rattle.geometry.proofs.masks.flag_all.Given as goal

abbrev pub invariant-loop-rectangle : goal.invariant-loop-rectangle
invariant-loop-rectangle l = AreFlagged l.flags l.rectangles l.rectangle-index
