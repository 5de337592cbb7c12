use Rattle.compact.proofs.Stepping.{AreKeptTo}
use Rattle.compact.proofs.axis.are_along.Given as goal

abbrev pub invariant-loop-vertex : goal.invariant-loop-vertex
invariant-loop-vertex l = record {
  east : AreKeptTo l.around 0 l.vertex l.x l.y;
  north : AreKeptTo l.around 1 l.vertex l.y l.x;
}
