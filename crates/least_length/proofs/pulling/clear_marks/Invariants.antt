use Rattle.std.proofs.Common.{◌≤◌, ℕ}
use Rattle.std.specs.Prelude.{slice_index}
use Rattle.least_length.proofs.pulling.clear_marks.Given as goal

abbrev pub invariant-loop-segment : goal.invariant-loop-segment
invariant-loop-segment l = (r : ℕ) → slice_index l.marks r ≤ slice_index l.initial.marks r
