-- The edges of a plane: each is two darts, the lesser of which stands for it, and they are numbered from 0 in
-- the order of their lesser darts.
use Rattle.std.specs.Prelude.{ℕ, Bool, List, if◌then◌else◌}
use Rattle.common.specs.Sums.{sum_below}
use Rattle.embedding.specs.Lesser.{is_lesser_of, lesser_darts_of}
use Rattle.faces.specs.Planes.{PlaneModel}

-- whether a dart is the lesser one of its edge
abbrev pub is_lesser : PlaneModel → ℕ → Bool
is_lesser p = is_lesser_of p.lists

-- the lesser darts of all edges, in order
abbrev pub lesser_darts : PlaneModel → List ℕ
lesser_darts p = lesser_darts_of p.lists

-- the number of the edge whose lesser dart is d: how many lesser darts come before it
abbrev pub edge_number : PlaneModel → ℕ → ℕ
edge_number p d = sum_below d (λ k. if is_lesser p k then 1 else 0)
