use Rattle.std.proofs.Common.{◌≤◌, ℕ, length, slice_index}
use Rattle.visibility.specs.declared.segments.TheConstants.{MAX_SEGMENTS}
use Rattle.visibility.specs.Axes.{AreFew, KeepEnds}
use Rattle.visibility.proofs.segments.spread.Given as goal

abbrev pub invariant-loop-coordinate : goal.invariant-loop-coordinate
invariant-loop-coordinate l = record {
  few : AreFew l.segments;
  firsts : (c : ℕ) → slice_index l.firsts c ≤ length l.segments;
  free : l.free ≤ MAX_SEGMENTS;
  ends : KeepEnds l.initial.segments l.segments;
}

abbrev pub invariant-loop : goal.invariant-loop
invariant-loop l = record {
  few : AreFew l.segments;
  named : l.named ≤ length l.segments;
  free : l.free ≤ MAX_SEGMENTS;
  ends : KeepEnds l.initial.segments l.segments;
}
