use Rattle.std.proofs.Common.{◌≤◌, ◌<◌, ℕ}
use Rattle.std.specs.Prelude.{slice_index}
use Rattle.visibility.specs.declared.segments.TheConstants.{MAX_COORDINATE}
use Rattle.visibility.proofs.shortening.are_low.Given as goal

abbrev pub invariant-loop-coordinate : goal.invariant-loop-coordinate
invariant-loop-coordinate l = (r : ℕ) → r < l.coordinate-index → slice_index l.coordinates r ≤ MAX_COORDINATE
