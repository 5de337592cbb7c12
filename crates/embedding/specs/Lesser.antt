-- The lesser darts: of each edge's two darts the one with the lesser number.
use Rattle.std.specs.Prelude.{ℕ, ◌-◌, Bool, List, filter, nat_lt}
use Rattle.std.specs.List.{range_with_len}
use Rattle.embedding.specs.Darts.{dart_count, reverse_of}

-- whether a dart is lesser than its reverse
abbrev pub is_lesser_of : List (List ℕ) → ℕ → Bool
is_lesser_of g d = nat_lt d (reverse_of g d)

-- the darts that are lesser than their reverses, in order
abbrev pub lesser_darts_of : List (List ℕ) → List ℕ
lesser_darts_of g = filter (is_lesser_of g) (range_with_len 0 (dart_count g))

-- those of them from a dart on
abbrev pub lesser_darts_from : List (List ℕ) → ℕ → List ℕ
lesser_darts_from g d = filter (is_lesser_of g) (range_with_len d (dart_count g - d))
