use Rattle.std.proofs.Common.{◌≡◌, ◌<◌, ◌≤◌, ℕ, slice_index}
use Rattle.std.specs.Int.Bits.{bit_and, bit_or}
use Rattle.geometry.proofs.masks.add_mask.Given as goal

abbrev pub invariant-loop-row : goal.invariant-loop-row
invariant-loop-row l = record {
  done : (y : ℕ) → y < l.row-index → slice_index l.rows y ≡ bit_or (slice_index l.fn.rows y) l.mask;
  ahead : (y : ℕ) → l.row-index ≤ y → slice_index l.rows y ≡ slice_index l.fn.rows y;
  free : (y : ℕ) → y < l.row-index → bit_and (slice_index l.fn.rows y) l.mask ≡ 0;
}
