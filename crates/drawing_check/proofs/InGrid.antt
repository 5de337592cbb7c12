-- Whether vertices and corners lie in the grid, as far as edges have been met.
use Rattle.std.proofs.Common.{◌≡◌, ℕ, ◌+◌, ◌<◌, ◌↔◌, Bool, true, [], length, below_more, arith, All}
use Rattle.std.proofs.lemmas.List.{get_or_default}
use Rattle.ortho_rep.specs.Points.{PointsModel, corners_at}
use Rattle.drawing_check.specs.Draws.{IsInGrid, AreInGrid}

-- all vertices, and the corners of the first n edges
abbrev pub AreInGridBelow : PointsModel → ℕ → Type 0
AreInGridBelow points n = All IsInGrid points.vertices × ((e : ℕ) → e < n → All IsInGrid (corners_at points e))

-- one edge more
pub grid_more : (points : PointsModel) (n : ℕ) (old new here : Bool) → (new ≡ true ↔ ((old ≡ true) × (here ≡ true))) → (here ≡ true ↔ All IsInGrid (corners_at points n)) →
    (old ≡ true ↔ AreInGridBelow points n) → new ≡ true ↔ AreInGridBelow points (n + 1)
grid_more points n old new here both one before = (
  λ t. let so_far = before.0 (both.0 t).0 in (so_far.0, below_more _ _ so_far.1 (one.0 (both.0 t).1)),
  λ all. both.1 (before.1 (all.0, λ e lt. all.1 e (omega (arith, lt))), one.1 (all.1 n (omega arith))),
)

-- all edges
pub grid_all : (points : PointsModel) (n : ℕ) (done : Bool) → n ≡ length points.corners → (done ≡ true ↔ AreInGridBelow points n) → done ≡ true ↔ AreInGrid points
grid_all points n done whole is = (
  λ t. let all = is.0 t in record {
    ends = all.0;
    bends = λ k d lt. rw (get_or_default points.corners k d [] lt) (all.1 k (omega arith));
  },
  λ grid. is.1 (grid.ends, λ e lt. grid.bends e [] (omega arith)),
)
