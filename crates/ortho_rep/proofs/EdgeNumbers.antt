-- How edges are counted by their lesser darts.
use Rattle.std.proofs.Common.{◌≡◌, ◌≢◌, ℕ, ◌+◌, ◌-◌, ◌*◌, ◌<◌, ◌≤◌, true, false, cond, ltb, List, [], ◌∷◌, ◌++◌, length, length-append, map-id, Bool, filter, zero, suc, refl, sym, ap, ◌∙◌, subst, inl, inr, arith}
use Rattle.std.specs.List.{range_with_len}
use Rattle.std.proofs.lemmas.Bool.{cases_lt, lt-ltb, le-ltb, cond_both}
use Rattle.std.proofs.lemmas.List.FromFn.{map-range_with_len_more}
use Rattle.std.proofs.lemmas.List.Elements.{filter-append}
use Rattle.common.specs.Sums.{sum_below}
use Rattle.common.proofs.Sums.{sum_below-more, sum_below-same, sum_below-constant, sum_below-add, sum_below-split, sum_below-le, sum_below-turned}
use Rattle.faces.specs.Planes.{PlaneModel, HasEnds, darts, reverse_dart}
use Rattle.ortho_rep.specs.Edges.{is_lesser, edge_number}

-- 1 for a lesser dart
abbrev one_if_lesser : PlaneModel → ℕ → ℕ
one_if_lesser p d = cond (is_lesser p d) 1 0

-- of a dart and its reverse one is lesser
one_of : (a b c : ℕ) → b ≢ a → c ≡ a → cond (ltb a b) 1 0 + cond (ltb b c) 1 0 ≡ 1
one_of a b c apart same =
    elim (cases_lt a b) [
      | inl less ↦ rw (lt-ltb a b less, le-ltb b c (omega arith)) refl
      | inr more ↦ rw (le-ltb a b more, lt-ltb b c (omega arith)) refl
    ]

-- the edges are half as many as the darts
pub edge_total : (p : PlaneModel) → HasEnds p → 2 * edge_number p (darts p) ≡ darts p
edge_total p ends =
    let n = darts p in
    let turned : sum_below n (λ d. one_if_lesser p (reverse_dart p d)) ≡ sum_below n (one_if_lesser p) =
    sum_below-turned n (reverse_dart p) (one_if_lesser p) ends.reverse_dart_in_range ends.reverse_dart_back in
    let ones : sum_below n (λ d. one_if_lesser p d + one_if_lesser p (reverse_dart p d)) ≡ sum_below n (λ _. 1) =
    sum_below-same n (λ d. one_if_lesser p d + one_if_lesser p (reverse_dart p d)) (λ _. 1) (λ d b. one_of d (reverse_dart p d) (reverse_dart p (reverse_dart p d)) (ends.reverse_dart_apart d b) (ends.reverse_dart_back d b)) in
    omega (arith, turned, ones, sum_below-add n (one_if_lesser p) (λ d. one_if_lesser p (reverse_dart p d)), sum_below-constant n 1)

-- a lesser dart comes before the number of edges is reached
pub edge_number-below : (p : PlaneModel) (n d : ℕ) → d < n → is_lesser p d ≡ true → edge_number p d < edge_number p n
edge_number-below p n d inside lesser =
    let whole : d + 1 + (n - (d + 1)) ≡ n = omega arith in
    let split = subst (λ (m : ℕ). sum_below m (one_if_lesser p) ≡ sum_below (d + 1) (one_if_lesser p) + sum_below (n - (d + 1)) (λ i. one_if_lesser p (d + 1 + i))) whole (sum_below-split (d + 1) (n - (d + 1)) (one_if_lesser p)) in
    let one : one_if_lesser p d ≡ 1 = rw lesser refl in
    omega (arith, split, sum_below-more d (one_if_lesser p), one)

pub edge_number-more : (p : PlaneModel) (d : ℕ) → edge_number p (d + 1) ≡ edge_number p d + cond (is_lesser p d) 1 0
edge_number-more p d = sum_below-more d (one_if_lesser p)

-- an edge's number is at most its lesser dart's
pub edge_number-le : (p : PlaneModel) (d : ℕ) → edge_number p d ≤ d
edge_number-le p d =
    omega (arith, sum_below-le d (one_if_lesser p) (λ _. 1) (λ i b. cond_both (is_lesser p i) 1 0 (λ (n : ℕ). n ≤ 1) (λ e. omega arith) (λ e. omega arith)), sum_below-constant d 1)

-- the lesser darts below a number, with one more
pub lesser-more : (q : ℕ → Bool) (n : ℕ) → filter q (range_with_len 0 (n + 1)) ≡ filter q (range_with_len 0 n) ++ cond (q n) (n ∷ []) []
lesser-more q n =
    ap (filter q) (range_more n) ∙ filter-append q (range_with_len 0 n) (n ∷ [])
  where
    range_more : (m : ℕ) → range_with_len 0 (m + 1) ≡ range_with_len 0 m ++ m ∷ []
    range_more m = sym (map-id (range_with_len 0 (m + 1))) ∙ (map-range_with_len_more (λ k. k) 0 m m (omega arith) ∙ ap (λ (l : List ℕ). l ++ m ∷ []) (map-id (range_with_len 0 m)))

-- there are as many lesser darts as edges
pub length-lesser : (p : PlaneModel) (n : ℕ) → length (filter (is_lesser p) (range_with_len 0 n)) ≡ edge_number p n
length-lesser p zero = refl
length-lesser p (suc n) =
    let one : n + 1 ≡ suc n = omega arith in
    let more = subst (λ (m : ℕ). filter (is_lesser p) (range_with_len 0 m) ≡ filter (is_lesser p) (range_with_len 0 n) ++ cond (is_lesser p n) (n ∷ []) []) one (lesser-more (is_lesser p) n) in
    ap length more ∙ (length-append (filter (is_lesser p) (range_with_len 0 n)) (cond (is_lesser p n) (n ∷ []) []) ∙ counted (is_lesser p n) n _ _ (length-lesser p n))
  where
    counted : (b : Bool) (k m e : ℕ) → m ≡ e → m + length (cond b (k ∷ []) []) ≡ e + cond b 1 0
    counted true k m e same = omega arith
    counted false k m e same = omega arith
