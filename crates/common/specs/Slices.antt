-- Lists of items in one list, with the places where those of each list start.
use Rattle.std.specs.Prelude.{ℕ, ◌+◌, ◌<◌, ◌≤◌, List, [], ◌∷◌, length, slice_index, slice_range}

-- the pieces of a list from place `start` on, cut at each of the further places
abbrev pub slices_from : {A : Type 0} → ℕ → List ℕ → List A → List (List A)
slices_from start [] items = []
slices_from start (end ∷ ends) items = slice_range items start end ∷ slices_from end ends items

-- the pieces of a list between each two places that follow one another
abbrev pub slices_at : {A : Type 0} → List ℕ → List A → List (List A)
slices_at [] items = []
slices_at (start ∷ ends) items = slices_from start ends items

-- the places stand in order within the list
pub record AreStarts {A : Type 0} (starts : List ℕ) (items : List A) : Type 0 where
  pub some : 0 < length starts
  pub ordered : (k : ℕ) → k + 1 < length starts → slice_index starts k ≤ slice_index starts (k + 1)
  pub inside : (k : ℕ) → k < length starts → slice_index starts k ≤ length items
