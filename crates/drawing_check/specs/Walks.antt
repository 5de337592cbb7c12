-- The grid points that are met in walking along a path whose parts are parallel to the axes.
use Rattle.std.specs.Prelude.{ℕ, ◌+◌, ◌-◌, ◌≢◌, List, [], ◌∷◌, ◌++◌, map, nat_lt, if◌then◌else◌, AllPairs}
use Rattle.std.specs.List.{range_with_len}
use Rattle.ortho_rep.specs.declared.grid_points.Point.{Point}

-- the number k steps from a toward b
abbrev pub toward : ℕ → ℕ → ℕ → ℕ
toward a b k = if nat_lt a b then a + k else (if nat_lt b a then a - k else a)

-- the point k steps from a toward b
abbrev pub step_from : Point → Point → ℕ → Point
step_from a b k = record { x = toward a.x b.x k; y = toward a.y b.y k }

-- how many steps lead from a to b
abbrev pub distance : Point → Point → ℕ
distance a b = (a.x - b.x) + (b.x - a.x) + (a.y - b.y) + (b.y - a.y)

-- the first n points after a on the way to b
abbrev pub walk : Point → Point → ℕ → List Point
walk a b n = map (step_from a b) (range_with_len 1 n)

-- the points of a path between its ends, in walking order, each as often as it is met and a corner once
abbrev pub interior : List Point → List Point
interior [] = []
interior (a ∷ []) = []
interior (a ∷ b ∷ []) = walk a b (distance a b - 1)
interior (a ∷ b ∷ c ∷ rest) = walk a b (distance a b) ++ interior (b ∷ c ∷ rest)

-- no point stands at two places of the list
abbrev pub AreDistinct : List Point → Type 0
AreDistinct points = AllPairs (λ p q. p ≢ q) points
