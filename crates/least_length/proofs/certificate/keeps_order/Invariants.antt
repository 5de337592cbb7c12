use Rattle.std.proofs.Common.{◌<◌, ℕ}
use Rattle.least_length.specs.Lengths.{coordinates_in, segment_at, StandsBefore}
use Rattle.least_length.proofs.certificate.keeps_order.Given as goal

abbrev pub invariant-loop-other : goal.invariant-loop-other
invariant-loop-other l = (s : ℕ) → s < l.other → StandsBefore (segment_at l.segments l.place) (segment_at l.segments s) → coordinates_in l.coordinates l.place < coordinates_in l.coordinates s
