-- Which face of the plane each cell lies in. Here a cell is named by its upper right corner: cell (i, j) reaches from i - 1 to i and from
-- j - 1 to j. So column 0 lies west of all coordinates, and row 0 south of them.
use Rattle.std.specs.Prelude.{◌≡◌, ℕ, ◌+◌, ◌<◌, ◌≤◌, ◌⊎◌}
use Rattle.dissect.specs.DartMaps.{DartMap}
use Rattle.dissect.specs.Monotone.{tail}

-- the dart a passes row j to the north, along the line i
abbrev pub PassesRow : DartMap → (ℕ → ℕ) → (ℕ → ℕ) → ℕ → ℕ → ℕ → Type 0
PassesRow w x y a i j = (a < w.darts) × (w.direction a ≡ 1) × (x (w.head a) ≡ i) × (y (tail w a) < j) × (j ≤ y (w.head a))

-- the dart a passes column i to the east, along the line j
abbrev pub PassesColumn : DartMap → (ℕ → ℕ) → (ℕ → ℕ) → ℕ → ℕ → ℕ → Type 0
PassesColumn w x y a i j = (a < w.darts) × (w.direction a ≡ 0) × (y (w.head a) ≡ j) × (x (tail w a) < i) × (i ≤ x (w.head a))

-- each cell has the label of what lies there: r gives the label of a dart to the cells on its left, and `outer` far outside
pub record AreCellLabels (w : DartMap) (x y label : ℕ → ℕ) (outer : ℕ) (r : ℕ → ℕ → ℕ) : Type 0 where
  -- west of a dart to the north it is that of the dart, east of it that of its reverse
  pub north : (a i j : ℕ) → PassesRow w x y a i j → (r i j ≡ label a) × (r (i + 1) j ≡ label (w.reverse_dart a))
  -- north of a dart to the east it is that of the dart, south of it that of its reverse
  pub east : (a i j : ℕ) → PassesColumn w x y a i j → (r i (j + 1) ≡ label a) × (r i j ≡ label (w.reverse_dart a))
  -- between two neighbours a dart passes, or both have one label
  pub beside : (i j : ℕ) → ((a : ℕ) × PassesRow w x y a i j) ⊎ (r i j ≡ r (i + 1) j)
  pub above : (i j : ℕ) → ((a : ℕ) × PassesColumn w x y a i j) ⊎ (r i j ≡ r i (j + 1))
  pub west : (j : ℕ) → r 0 j ≡ outer
  pub south : (i : ℕ) → r i 0 ≡ outer
