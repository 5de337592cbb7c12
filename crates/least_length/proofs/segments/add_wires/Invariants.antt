use Rattle.std.proofs.Common.{◌≡◌, ◌≤◌, ◌<◌, ℕ, length}
use Rattle.std.specs.Prelude.{◌==◌, if◌then◌else◌, slice_index}
use Rattle.common.specs.Sums.{sum_below}
use Rattle.least_length.specs.Lengths.{wire_at}
use Rattle.least_length.proofs.segments.add_wires.Given as goal

abbrev pub invariant-loop-wire : goal.invariant-loop-wire
invariant-loop-wire l = record {
  up : (r : ℕ) → r < length l.up → slice_index l.up r ≡ sum_below l.wire-index (λ i. if (wire_at l.wires i).from == r then 1 else 0);
  down : (r : ℕ) → r < length l.down → slice_index l.down r ≡ sum_below l.wire-index (λ i. if (wire_at l.wires i).to == r then 1 else 0);
  light : (r : ℕ) → slice_index l.up r ≤ l.wire-index;
  slight : (r : ℕ) → slice_index l.down r ≤ l.wire-index;
}
