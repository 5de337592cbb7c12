use Rattle.visibility.specs.Axes.{AreFew, KeepEnds}
use Rattle.visibility.proofs.shortening.assign.Given as goal

abbrev pub invariant-loop-segment : goal.invariant-loop-segment
invariant-loop-segment l = record {
  few : AreFew l.segments;
  ends : KeepEnds l.initial.segments l.segments;
}
