-- A list cut at places, piece by piece.
use Rattle.std.proofs.Common.{◌≡◌, ◌<◌, ℕ, zero, suc, ◌+◌, List, [], ◌∷◌, length, get_or, refl, ap, add-one, arith}
use Rattle.std.specs.Prelude.{slice_range}
use Rattle.common.specs.Slices.{slices_at, slices_from}

length-slices_from : {A : Type 0} (start : ℕ) (ends : List ℕ) (items : List A) → length (slices_from start ends items) ≡ length ends
length-slices_from start [] items = refl
length-slices_from start (end ∷ ends) items = ap suc (length-slices_from end ends items)

-- there is one piece less than there are places
pub length-slices_at : {A : Type 0} (starts : List ℕ) (items : List A) → 0 < length starts → length (slices_at starts items) + 1 ≡ length starts
length-slices_at [] items some = absurd (omega arith)
length-slices_at (start ∷ ends) items some = omega (arith, length-slices_from start ends items)

get_or-slices_from : {A : Type 0} (k start : ℕ) (ends : List ℕ) (items : List A) → k < length ends → get_or (slices_from start ends items) k [] ≡ slice_range items (get_or (start ∷ ends) k 0) (get_or ends k 0)
get_or-slices_from k start [] items within = absurd (omega arith)
get_or-slices_from zero start (end ∷ ends) items within = refl
get_or-slices_from (suc k) start (end ∷ ends) items within = get_or-slices_from k end ends items (omega arith)

-- piece k is what stands between place k and place k + 1
pub get_or-slices_at : {A : Type 0} (starts : List ℕ) (items : List A) (k : ℕ) → k + 1 < length starts → get_or (slices_at starts items) k [] ≡ slice_range items (get_or starts k 0) (get_or starts (k + 1) 0)
get_or-slices_at [] items k within = absurd (omega arith)
get_or-slices_at (start ∷ ends) items k within = rw add-one (get_or-slices_from k start ends items (omega arith))
