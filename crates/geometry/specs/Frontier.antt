-- The frontier of a sweep: for each row, the first column right of all that the sweep met there. Only the contracts of
-- the sweep's private steps mention it.
use Rattle.std.specs.Prelude.{◌≡◌, ℕ, ◌+◌, ◌<◌, ◌≤◌, List, slice_index}
use Rattle.geometry.specs.declared.plane_sweep.Rectangle.{Rectangle}

-- the row is one of the rectangle's
abbrev pub HasRow : Rectangle → ℕ → Type 0
HasRow r y = (r.bottom ≤ y) × (y ≤ r.top)

-- the frontier was nowhere beyond the rectangle's left column, and has moved past it in its rows alone
pub record MovesPast (before after : List ℕ) (new : Rectangle) : Type 0 where
  pub free : (y : ℕ) → HasRow new y → slice_index before y ≤ new.left
  pub taken : (y : ℕ) → HasRow new y → slice_index after y ≡ new.right + 1
  pub others : (y : ℕ) → (HasRow new y → ⊥) → slice_index after y ≡ slice_index before y

-- the frontier is beyond the rectangle's left column in one of its rows
abbrev pub IsBeyond : List ℕ → Rectangle → Type 0
IsBeyond frontier new = (y : ℕ) × HasRow new y × (new.left < slice_index frontier y)
