use Rattle.visibility.specs.Axes.{AreListed, KeepEnds}
use Rattle.visibility.proofs.segments.list_all.Given as goal

abbrev pub invariant-loop-place : goal.invariant-loop-place
invariant-loop-place l = record {
  listed : AreListed l.segments l.firsts;
  ends : KeepEnds l.initial.segments l.segments;
}
