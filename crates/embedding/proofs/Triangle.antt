-- The darts of the triangle 1: 2, 3; 2: 3, 1; 3: 1, 2, as computed by hand.
use Rattle.std.specs.Prelude.{◌≡◌, ℕ, List, [], ◌∷◌, map, refl}
use Rattle.std.specs.List.{range_with_len}
use Rattle.embedding.specs.Darts.{dart_count, head_of, tail_of, reverse_of, next_of}

abbrev triangle : List (List ℕ)
triangle = (2 ∷ 3 ∷ []) ∷ (3 ∷ 1 ∷ []) ∷ (1 ∷ 2 ∷ []) ∷ []

darts : dart_count triangle ≡ 6
darts = refl

tails : map (tail_of triangle) (range_with_len 0 6) ≡ 1 ∷ 1 ∷ 2 ∷ 2 ∷ 3 ∷ 3 ∷ []
tails = refl

heads_are : map (head_of triangle) (range_with_len 0 6) ≡ 2 ∷ 3 ∷ 3 ∷ 1 ∷ 1 ∷ 2 ∷ []
heads_are = refl

reverses : map (reverse_of triangle) (range_with_len 0 6) ≡ 3 ∷ 4 ∷ 5 ∷ 0 ∷ 1 ∷ 2 ∷ []
reverses = refl

nexts : map (next_of triangle) (range_with_len 0 6) ≡ 2 ∷ 5 ∷ 4 ∷ 1 ∷ 0 ∷ 3 ∷ []
nexts = refl
