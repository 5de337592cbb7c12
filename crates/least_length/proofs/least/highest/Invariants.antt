use Rattle.std.proofs.Common.{◌≤◌, ◌<◌, ℕ}
use Rattle.least_length.specs.Lengths.{segment_at}
use Rattle.least_length.proofs.least.highest.Given as goal

abbrev pub invariant-loop-segment : goal.invariant-loop-segment
invariant-loop-segment l = (r : ℕ) → r < l.segment-index → (segment_at l.segments r).high ≤ l.most
