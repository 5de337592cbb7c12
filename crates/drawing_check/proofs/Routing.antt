-- The paths of a plane's edges, met by their lesser darts in order.
use Rattle.std.proofs.Common.{◌≡◌, ℕ, ◌+◌, ◌<◌, ◌↔◌, Bool, true, false, zero, suc, cond, List, [], ◌∷◌, ◌++◌, map, filter, get_or, refl, sym, ap, ◌∙◌, subst, ⊎_elim, arith, All}
use Rattle.std.specs.List.{range_with_len, Contains}
use Rattle.std.proofs.lemmas.List.{get_or-map, length-map, map_push, append-nil}
use Rattle.std.proofs.lemmas.List.FromFn.{get_or-range_with_len, length-range_with_len}
use Rattle.std.proofs.lemmas.List.Elements.{All-map, All-filter, All-contains, filter_passes, Contains-append_left, Contains-append_right}
use Rattle.std.proofs.lemmas.Bool.{both_ways, cases_eq, cond-true, cond-false}
use Rattle.faces.specs.Planes.{PlaneModel, darts}
use Rattle.ortho_rep.proofs.EdgeNumbers.{lesser-more}
use Rattle.ortho_rep.specs.declared.grid_points.Point.{Point}
use Rattle.ortho_rep.specs.Points.{PointsModel}
use Rattle.ortho_rep.specs.Edges.{is_lesser, lesser_darts}
use Rattle.drawing_check.specs.Paths.{path_along, paths}
use Rattle.drawing_check.specs.Draws.{IsOnAxes, AreOnAxes}

-- what holds of each image holds at each element
pub all_from_map : {X Y : Type 0} (P : Y → Type 0) (f : X → Y) (xs : List X) → All P (map f xs) → All (λ x. P (f x)) xs
all_from_map P f xs h = λ k d lt. subst P (get_or-map f xs k d (f d) lt) (h k (f d) (omega (arith, length-map xs f)))

pub lesser_inside : (p : PlaneModel) → All (λ d. d < darts p) (lesser_darts p)
lesser_inside p = All-filter (is_lesser p) (λ d. d < darts p) (range_with_len 0 (darts p)) (λ k d lt. let size = length-range_with_len 0 (darts p) in let value = get_or-range_with_len 0 (darts p) k d (omega arith) in omega arith)

-- each lesser dart below n stands in their list
pub lesser_in : (q : ℕ → Bool) (n d : ℕ) → d < n → q d ≡ true → Contains (filter q (range_with_len 0 n)) d
lesser_in q zero d lt here = absurd (omega arith)
lesser_in q (suc n) d lt here =
    let one : n + 1 ≡ suc n = omega arith in
    let more = subst (λ (m : ℕ). filter q (range_with_len 0 m) ≡ filter q (range_with_len 0 n) ++ cond (q n) (n ∷ []) []) one (lesser-more q n) in
    let last : d ≡ n → Contains (cond (q n) (n ∷ []) []) d =
    λ e. subst (λ (ds : List ℕ). Contains ds d) (sym (cond-true (q n) (n ∷ []) [] (subst (λ (m : ℕ). q m ≡ true) e here))) (subst (λ (m : ℕ). Contains (m ∷ []) d) e (0, omega arith, refl)) in
    subst (λ (ds : List ℕ). Contains ds d) (sym more)
    (⊎_elim
    (λ e. Contains-append_right (filter q (range_with_len 0 n)) (cond (q n) (n ∷ []) []) d (last e))
    (λ ne. Contains-append_left (filter q (range_with_len 0 n)) (cond (q n) (n ∷ []) []) d (lesser_in q n d (omega arith) here))
    (cases_eq d n))

-- what holds of all in their list holds of each lesser dart, and the other way
pub each_lesser : (P : ℕ → Type 0) (p : PlaneModel) → All P (lesser_darts p) ↔ ((d : ℕ) → d < darts p → is_lesser p d ≡ true → P d)
each_lesser P p = (
  λ all d lt here. All-contains P (lesser_darts p) d all (lesser_in (is_lesser p) (darts p) d lt here),
  λ each k d lt. each (get_or (lesser_darts p) k d) (lesser_inside p k d lt) (filter_passes (is_lesser p) (range_with_len 0 (darts p)) k d lt),
)

-- one dart more
pub each_more : (P : ℕ → Type 0) (p : PlaneModel) (n : ℕ) → ((d : ℕ) → d < n → is_lesser p d ≡ true → P d) → (is_lesser p n ≡ true → P n) → (d : ℕ) → d < n + 1 → is_lesser p d ≡ true → P d
each_more P p n before last d lt lesser =
    ⊎_elim
    (λ e. subst P (sym e) (last (subst (λ (m : ℕ). is_lesser p m ≡ true) e lesser)))
    (λ ne. before d (omega arith) lesser)
    (cases_eq d n)

-- a flag that tells whether it holds of the lesser darts below n: a lesser dart more
pub flag_more : (P : ℕ → Type 0) (p : PlaneModel) (n : ℕ) (old new here : Bool) → (new ≡ true ↔ ((old ≡ true) × (here ≡ true))) → (here ≡ true ↔ P n) → is_lesser p n ≡ true →
    (old ≡ true ↔ ((d : ℕ) → d < n → is_lesser p d ≡ true → P d)) → new ≡ true ↔ ((d : ℕ) → d < n + 1 → is_lesser p d ≡ true → P d)
flag_more P p n old new here both one lesser before = (
  λ t. each_more P p n (before.0 (both.0 t).0) (λ _. one.0 (both.0 t).1),
  λ all. both.1 (before.1 (λ d lt less. all d (omega (arith, lt)) less), one.1 (all n (omega arith) lesser)),
)

-- and a dart more that is not lesser
pub flag_kept : (P : ℕ → Type 0) (p : PlaneModel) (n : ℕ) (old : Bool) → is_lesser p n ≡ false →
    (old ≡ true ↔ ((d : ℕ) → d < n → is_lesser p d ≡ true → P d)) → old ≡ true ↔ ((d : ℕ) → d < n + 1 → is_lesser p d ≡ true → P d)
flag_kept P p n old greater before = (
  λ t. each_more P p n (before.0 t) (λ less. absurd (both_ways (is_lesser p n) greater less)),
  λ all. before.1 (λ d lt less. all d (omega (arith, lt)) less),
)

-- all paths are on axes where that of each lesser dart is, and the other way
pub axes_each : (p : PlaneModel) (points : PointsModel) → AreOnAxes (paths p points) ↔ ((d : ℕ) → d < darts p → is_lesser p d ≡ true → IsOnAxes (path_along p points d))
axes_each p points =
    let each = each_lesser (λ d. IsOnAxes (path_along p points d)) p in (
      λ h. each.0 (all_from_map IsOnAxes (path_along p points) (lesser_darts p) h),
      λ h. All-map IsOnAxes (path_along p points) (lesser_darts p) (each.1 h),
    )

-- the paths of the lesser darts below n
abbrev pub paths_below : PlaneModel → PointsModel → ℕ → List (List Point)
paths_below p points n = map (path_along p points) (filter (is_lesser p) (range_with_len 0 n))

pub paths_below-more : (p : PlaneModel) (points : PointsModel) (n : ℕ) → is_lesser p n ≡ true → paths_below p points (n + 1) ≡ paths_below p points n ++ path_along p points n ∷ []
paths_below-more p points n lesser =
    ap (map (path_along p points)) (lesser-more (is_lesser p) n ∙ ap (λ (ds : List ℕ). filter (is_lesser p) (range_with_len 0 n) ++ ds) (cond-true (is_lesser p n) (n ∷ []) [] lesser))
    ∙ map_push (path_along p points) (filter (is_lesser p) (range_with_len 0 n)) n

pub paths_below-kept : (p : PlaneModel) (points : PointsModel) (n : ℕ) → is_lesser p n ≡ false → paths_below p points (n + 1) ≡ paths_below p points n
paths_below-kept p points n greater =
    ap (map (path_along p points))
    (lesser-more (is_lesser p) n ∙ ap (λ (ds : List ℕ). filter (is_lesser p) (range_with_len 0 n) ++ ds) (cond-false (is_lesser p n) (n ∷ []) [] greater) ∙ append-nil (filter (is_lesser p) (range_with_len 0 n)))
