use Rattle.std.specs.Ordering.{nat_cmp}
use Rattle.std.specs.BTreeMap.{get}
use Rattle.geometry.proofs.Holdings.{IsSwept}
use Rattle.geometry.proofs.plane_sweep.sweep_with_dictionary.Given as goal

abbrev pub invariant-loop-rectangle : goal.invariant-loop-rectangle
invariant-loop-rectangle l = IsSwept (get nat_cmp l.active) l.rectangles l.rectangle-index
