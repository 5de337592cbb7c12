-- Flags on a grid: for each row a number with a bit for each column. Only the contracts of private steps mention them.
use Rattle.std.specs.Prelude.{◌≡◌, ℕ, List, slice_index}
use Rattle.std.specs.Int.{bit_at}
use Rattle.geometry.specs.declared.plane_sweep.Rectangle.{Rectangle}
use Rattle.geometry.specs.Rectangles.{Covers}

-- no point of the rectangle had a flag; now each has one, and the flags of all other points are unchanged
pub record Flags (before after : List ℕ) (new : Rectangle) : Type 0 where
  pub free : (x y : ℕ) → Covers new x y → bit_at (slice_index before y) x ≡ 0
  pub flagged : (x y : ℕ) → Covers new x y → bit_at (slice_index after y) x ≡ 1
  pub others : (x y : ℕ) → (Covers new x y → ⊥) → bit_at (slice_index after y) x ≡ bit_at (slice_index before y) x

-- some point of the rectangle has a flag
abbrev pub IsMet : List ℕ → Rectangle → Type 0
IsMet table new = (x : ℕ) × (y : ℕ) × Covers new x y × (bit_at (slice_index table y) x ≡ 1)
