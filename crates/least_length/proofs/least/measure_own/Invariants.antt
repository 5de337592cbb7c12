use Rattle.std.proofs.Common.{◌≡◌, ◌≤◌, ◌*◌, ◌^◌}
use Rattle.common.specs.Sums.{sum_below}
use Rattle.least_length.specs.Lengths.{distance, wire_at, segment_at}
use Rattle.least_length.proofs.least.measure_own.Given as goal

abbrev pub invariant-loop-wire : goal.invariant-loop-wire
invariant-loop-wire l = record {
  sum : l.total ≡ sum_below l.wire-index (λ i. distance (segment_at l.segments (wire_at l.wires i).from).coordinate (segment_at l.segments (wire_at l.wires i).to).coordinate);
  bound : l.total ≤ l.wire-index * 2 ^ 16;
}
