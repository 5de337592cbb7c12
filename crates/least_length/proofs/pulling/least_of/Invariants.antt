use Rattle.std.proofs.Common.{◌≤◌, ◌<◌, ℕ}
use Rattle.std.specs.Prelude.{slice_index}
use Rattle.least_length.proofs.pulling.least_of.Given as goal

abbrev pub invariant-loop-coordinate : goal.invariant-loop-coordinate
invariant-loop-coordinate l = (r : ℕ) → r < l.coordinate-index → l.least ≤ slice_index l.coordinates r
