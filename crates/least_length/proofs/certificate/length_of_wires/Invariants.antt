use Rattle.std.proofs.Common.{◌≡◌, ◌≤◌, ◌*◌, ◌^◌}
use Rattle.common.specs.Sums.{sum_below}
use Rattle.least_length.specs.Lengths.{distance, wire_at, coordinates_in}
use Rattle.least_length.proofs.certificate.length_of_wires.Given as goal

abbrev pub invariant-loop-wire : goal.invariant-loop-wire
invariant-loop-wire l = record {
  sum : l.total ≡ sum_below l.wire-index (λ i. distance (coordinates_in l.coordinates (wire_at l.wires i).from) (coordinates_in l.coordinates (wire_at l.wires i).to));
  bound : l.total ≤ l.wire-index * 2 ^ 16;
}
