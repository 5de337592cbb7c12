-- How long edges are, one after another, and how far drawings reach.
use Rattle.std.proofs.Common.{◌≡◌, ℕ, ◌+◌, ◌≤◌, List, All, true, false, ap, ◌∙◌, arith}
use Rattle.std.specs.List.{sum_by}
use Rattle.std.proofs.lemmas.List.Sums.{sum_by_push}
use Rattle.faces.specs.Planes.{PlaneModel}
use Rattle.ortho_rep.specs.declared.grid_points.Point.{Point}
use Rattle.ortho_rep.specs.Shapes.{ShapeModel}
use Rattle.ortho_rep.specs.Points.{PointsModel, AreBelow, IsBelow}
use Rattle.ortho_rep.specs.Edges.{is_lesser}
use Rattle.drawing_check.specs.Paths.{path_along}
use Rattle.drawing_check.proofs.Routing.{paths_below, paths_below-more, paths_below-kept}
use Rattle.drawing_laws.proofs.Lowest.{laid_below}
use Rattle.reports.specs.Lengths.{path_length, IsQuick, IsNoLonger, IsNear}

-- how long the edges are whose lesser darts are below n
abbrev pub length_below : PlaneModel → PointsModel → ℕ → ℕ
length_below p points n = sum_by path_length (paths_below p points n)

pub length_below-more : (p : PlaneModel) (points : PointsModel) (n : ℕ) → is_lesser p n ≡ true
    → length_below p points (n + 1) ≡ length_below p points n + path_length (path_along p points n)
length_below-more p points n lesser =
    ap (λ (ps : List (List Point)). sum_by path_length ps) (paths_below-more p points n lesser)
    ∙ sum_by_push path_length (paths_below p points n) (path_along p points n)

pub length_below-kept : (p : PlaneModel) (points : PointsModel) (n : ℕ) → is_lesser p n ≡ false
    → length_below p points (n + 1) ≡ length_below p points n
length_below-kept p points n greater = ap (λ (ps : List (List Point)). sum_by path_length ps) (paths_below-kept p points n greater)

-- ---- how far points reach

more_below : (m n : ℕ) (points : List Point) → m ≤ n → All (IsBelow m) points → All (IsBelow n) points
more_below m n points le all k d lt = let below = all k d lt in (omega (arith, below.0), omega (arith, below.1))

pub still_below : (m n : ℕ) (points : PointsModel) → m ≤ n → AreBelow m points → AreBelow n points
still_below m n points le below = record {
  ends = more_below m n points.vertices le below.ends;
  bends = λ k d lt. more_below m n _ le (below.bends k d lt);
}

-- ---- quick drawings

pub quick_is_no_longer : (plane : PlaneModel) (shape : ShapeModel) (points : PointsModel) → IsQuick plane shape points → IsNoLonger plane shape points
quick_is_no_longer plane shape points quick = record { quick = points; is_quick = quick; no_longer = omega arith }

pub quick_is_near : (plane : PlaneModel) (shape : ShapeModel) (points : PointsModel) → IsQuick plane shape points → IsNear plane shape points
quick_is_near plane shape points quick =
    still_below quick.boxes.vertices _ points quick.boxed.few (laid_below quick.boxes points quick.boxed.boxes quick.least)
