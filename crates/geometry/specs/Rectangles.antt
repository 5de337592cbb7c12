-- Rectangles of grid points, borders included.
use Rattle.std.specs.Prelude.{ℕ, ◌≤◌}
use Rattle.geometry.specs.declared.plane_sweep.Rectangle.{Rectangle}

-- the point (x, y) lies in the rectangle
abbrev pub Covers : Rectangle → ℕ → ℕ → Type 0
Covers r x y = (r.left ≤ x) × (x ≤ r.right) × (r.bottom ≤ y) × (y ≤ r.top)

-- the rectangle has a point
abbrev pub IsNonempty : Rectangle → Type 0
IsNonempty r = (r.left ≤ r.right) × (r.bottom ≤ r.top)

-- the two have no point in common
abbrev pub AreApart : Rectangle → Rectangle → Type 0
AreApart r s = (x y : ℕ) → Covers r x y → Covers s x y → ⊥
