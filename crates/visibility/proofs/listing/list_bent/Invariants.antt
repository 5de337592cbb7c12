use Rattle.visibility.specs.Axes.{AreFew}
use Rattle.visibility.proofs.listing.list_bent.Given as goal

abbrev pub invariant-loop-edge : goal.invariant-loop-edge
invariant-loop-edge l = record {
  x : AreFew l.x.segments.items;
  y : AreFew l.y.segments.items;
}
