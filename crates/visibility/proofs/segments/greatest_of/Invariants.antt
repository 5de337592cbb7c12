use Rattle.std.proofs.Common.{◌≤◌, ◌<◌, ℕ}
use Rattle.visibility.specs.declared.segments.TheConstants.{MAX_COORDINATE}
use Rattle.visibility.specs.Axes.{segment_at}
use Rattle.visibility.proofs.segments.greatest_of.Given as goal

abbrev pub invariant-loop-segment : goal.invariant-loop-segment
invariant-loop-segment l = record {
  greatest : (r : ℕ) → r < l.segment-index → (segment_at l.segments r).coordinate ≤ l.greatest;
  room : l.greatest ≤ MAX_COORDINATE;
}
