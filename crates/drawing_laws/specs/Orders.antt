-- Coordinates that grow along the darts of boxes, and sets of faces that are closed in one direction.
use Rattle.std.specs.Prelude.{◌≡◌, ℕ, ◌<◌, Bool, true}
use Rattle.dissect.specs.DartMaps.{DartMap}
use Rattle.dissect.specs.Boxes.{BoxesModel, dart_map}
use Rattle.dissect.specs.Monotone.{IsMonotone}

-- some coordinates grow along the darts of the boxes
abbrev pub HasCoordinates : BoxesModel → Type 0
HasCoordinates b = (x : ℕ → ℕ) × (y : ℕ → ℕ) × IsMonotone (dart_map b) x y

-- A set of faces, told for each dart by the face on its left, that is closed across the darts of the direction k: with the face on the
-- right of such a dart it has the face on its left. Across darts to the east this is: with each box it has those directly above it.
pub record IsClosedAcross (w : DartMap) (k : ℕ) (s : ℕ → Bool) : Type 0 where
  pub whole : (a : ℕ) → a < w.darts → s (w.next a) ≡ s a
  pub across : (a : ℕ) → a < w.darts → w.direction a ≡ k → s (w.reverse_dart a) ≡ true → s a ≡ true
