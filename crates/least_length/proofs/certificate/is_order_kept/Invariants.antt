use Rattle.std.proofs.Common.{◌<◌, ℕ, length}
use Rattle.least_length.specs.Lengths.{coordinates_in, segment_at, StandsBefore}
use Rattle.least_length.proofs.certificate.is_order_kept.Given as goal

abbrev pub invariant-loop-place : goal.invariant-loop-place
invariant-loop-place l = (r : ℕ) → r < l.place → (s : ℕ) → s < length l.segments → StandsBefore (segment_at l.segments r) (segment_at l.segments s) → coordinates_in l.coordinates r < coordinates_in l.coordinates s
