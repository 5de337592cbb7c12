-- The least coordinates that grow along the darts of boxes.
use Rattle.std.specs.Prelude.{◌≡◌, ℕ, ◌<◌, ◌≤◌}
use Rattle.dissect.specs.Boxes.{BoxesModel, dart_map}
use Rattle.dissect.specs.Monotone.{IsMonotone}

-- coordinates that grow along the darts of the boxes, and no others that do are lower at any vertex
pub record AreLeast (b : BoxesModel) (x y : ℕ → ℕ) : Type 0 where
  pub monotone : IsMonotone (dart_map b) x y
  pub x_least : (x1 y1 : ℕ → ℕ) → IsMonotone (dart_map b) x1 y1 → (v : ℕ) → v < b.vertices → x v ≤ x1 v
  pub y_least : (x1 y1 : ℕ → ℕ) → IsMonotone (dart_map b) x1 y1 → (v : ℕ) → v < b.vertices → y v ≤ y1 v

-- there are least coordinates that grow along the darts of the boxes
abbrev pub HasLeast : BoxesModel → Type 0
HasLeast b = (x : ℕ → ℕ) × (y : ℕ → ℕ) × AreLeast b x y

-- the first n coordinates have no gap: each coordinate up to one of them is one of them
abbrev pub HasNoGap : ℕ → (ℕ → ℕ) → Type 0
HasNoGap n x = (v k : ℕ) → v < n → k ≤ x v → (u : ℕ) × (u < n) × (x u ≡ k)

-- no coordinates grow along the darts of the boxes
abbrev pub HasNoCoordinates : BoxesModel → Type 0
HasNoCoordinates b = (x y : ℕ → ℕ) → ¬ IsMonotone (dart_map b) x y
