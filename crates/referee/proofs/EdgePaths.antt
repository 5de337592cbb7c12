-- The path of an edge by its number, and by its lesser dart.
use Rattle.std.proofs.Common.{◌≡◌, ℕ, ◌+◌, ◌<◌, ◌≤◌, Bool, true, false, zero, suc, cond, ◌⊎◌, List, [], ◌∷◌, ◌++◌, length, filter, get_or, refl, sym, ap, ◌∙◌, subst, ⊎_elim, inl, inr, arith}
use Rattle.std.specs.List.{range_with_len}
use Rattle.std.proofs.lemmas.Bool.{both_ways, cases_eq, cond-true}
use Rattle.std.proofs.lemmas.List.{get_or-map, get_or_append_left, get_or_push}
use Rattle.faces.specs.Planes.{PlaneModel, darts}
use Rattle.ortho_rep.specs.declared.grid_points.Point.{Point}
use Rattle.ortho_rep.specs.Points.{PointsModel}
use Rattle.ortho_rep.specs.Edges.{is_lesser, lesser_darts, edge_number}
use Rattle.ortho_rep.proofs.EdgeNumbers.{edge_number-below, lesser-more, length-lesser}
use Rattle.drawing_check.specs.Paths.{path_along}
use Rattle.drawing_check.proofs.Leaving.{number_of_lesser, number_of_greater}
use Rattle.referee.specs.Faults.{path_of_edge}

-- the lesser darts below n
abbrev lesser_below : PlaneModel → ℕ → List ℕ
lesser_below p n = filter (is_lesser p) (range_with_len 0 n)

lesser_below-more : (p : PlaneModel) (n : ℕ) → lesser_below p (suc n) ≡ lesser_below p n ++ cond (is_lesser p n) (n ∷ []) []
lesser_below-more p n =
    let one : n + 1 ≡ suc n = omega arith in
    subst (λ (m : ℕ). lesser_below p m ≡ lesser_below p n ++ cond (is_lesser p n) (n ∷ []) []) one (lesser-more (is_lesser p) n)

-- the list of lesser darts has each at the place of its edge
lesser_at : (p : PlaneModel) (n d x : ℕ) → d < n → is_lesser p d ≡ true → get_or (lesser_below p n) (edge_number p d) x ≡ d
lesser_at p zero d x lt lesser = absurd (omega (arith, lt))
lesser_at p (suc n) d x lt lesser =
    let size : length (lesser_below p n) ≡ edge_number p n = length-lesser p n in
    ap (λ (ds : List ℕ). get_or ds (edge_number p d) x) (lesser_below-more p n)
    ∙ ⊎_elim
    (λ same.
    let last : is_lesser p n ≡ true = subst (λ (m : ℕ). is_lesser p m ≡ true) same lesser in
    ap (λ (ds : List ℕ). get_or (lesser_below p n ++ ds) (edge_number p d) x) (cond-true (is_lesser p n) (n ∷ []) [] last)
    ∙ get_or_push (lesser_below p n) n x (edge_number p d) (size ∙ ap (edge_number p) (sym same)) ∙ sym same)
    (λ other.
    let below : d < n = omega (arith, lt, other) in
    get_or_append_left (lesser_below p n) (cond (is_lesser p n) (n ∷ []) []) x (edge_number p d) (omega (arith, size, edge_number-below p n d below lesser))
    ∙ lesser_at p n d x below lesser)
    (cases_eq d n)

-- the path of an edge is that along its lesser dart
pub path_of_lesser : (p : PlaneModel) (points : PointsModel) (d : ℕ) → d < darts p → is_lesser p d ≡ true → path_of_edge p points (edge_number p d) ≡ path_along p points d
path_of_lesser p points d inside lesser =
    let e : ℕ = edge_number p d in
    let within : e < length (lesser_darts p) = omega (arith, length-lesser p (darts p), edge_number-below p (darts p) d inside lesser) in
    get_or-map (path_along p points) (lesser_darts p) e 0 [] within ∙ ap (path_along p points) (lesser_at p (darts p) d 0 inside lesser)

-- each edge numbered before those of the darts from n on has a lesser dart below n
pub record HasDart (p : PlaneModel) (points : PointsModel) (n e : ℕ) : Type 0 where
  pub dart : ℕ
  pub below : dart < n
  pub lesser : is_lesser p dart ≡ true
  pub path : path_of_edge p points e ≡ path_along p points dart

earlier_dart : (p : PlaneModel) (points : PointsModel) (n e : ℕ) → HasDart p points n e → HasDart p points (suc n) e
earlier_dart p points n e has = record { dart = has.dart; below = omega (arith, has.below); lesser = has.lesser; path = has.path }

pub dart_of_edge : (p : PlaneModel) (points : PointsModel) (n e : ℕ) → n ≤ darts p → e < edge_number p n → HasDart p points n e
dart_of_edge p points zero e few lt = absurd (omega (arith, lt))
dart_of_edge p points (suc n) e few lt =
    let one : n + 1 ≡ suc n = omega arith in
    let number : edge_number p (suc n) ≡ edge_number p (n + 1) = ap (edge_number p) (sym one) in
    ⊎_elim
    (λ lesser.
    ⊎_elim
    (λ same. record {
      dart = n;
      below = omega arith;
      lesser = lesser;
      path = ap (path_of_edge p points) same ∙ path_of_lesser p points n (omega (arith, few)) lesser;
    })
    (λ other. earlier_dart p points n e
    (dart_of_edge p points n e (omega (arith, few)) (omega (arith, lt, other, number, number_of_lesser p n lesser))))
    (cases_eq e (edge_number p n)))
    (λ greater. earlier_dart p points n e (dart_of_edge p points n e (omega (arith, few)) (omega (arith, lt, number, number_of_greater p n greater))))
    (true_or_false (is_lesser p n))
  where
    true_or_false : (b : Bool) → (b ≡ true) ⊎ (b ≡ false)
    true_or_false true = inl refl
    true_or_false false = inr refl
