-- The turns of all edges, each counted along its lesser dart.
use Rattle.std.proofs.Common.{◌≡◌, ◌≢◌, ℕ, ◌+◌, ◌*◌, ◌-◌, ◌/◌, ◌<◌, ◌≤◌, cond, ltb, List, length, ◌∙◌, arith, ap, inl, inr}
use Rattle.std.proofs.lemmas.Bool.{cases_lt, lt-ltb, le-ltb, cond-true, cond-false}
use Rattle.common.specs.Sums.{sum_below}
use Rattle.common.proofs.Sums.{sum_below-more, sum_below-same, sum_below-add, sum_below-turned, sum_below-split}
use Rattle.faces.specs.Planes.{PlaneModel, HasEnds, darts, reverse_dart}
use Rattle.ortho_rep.specs.declared.turn_strings.Turn.{Turn}
use Rattle.ortho_rep.specs.Representation.{Rep, bends_of}
use Rattle.ortho_rep.proofs.Mirrors.{length-mirrored}

-- how many turns dart d gives its edge
abbrev pub lesser_length : PlaneModel → (ℕ → List Turn) → ℕ → ℕ
lesser_length p s d = cond (ltb d (reverse_dart p d)) (length (s d)) 0

pub lesser_length-lesser : (p : PlaneModel) (s : ℕ → List Turn) (d : ℕ) → d < reverse_dart p d → lesser_length p s d ≡ length (s d)
lesser_length-lesser p s d l = cond-true {A = ℕ} (ltb d (reverse_dart p d)) (length (s d)) 0 (lt-ltb d (reverse_dart p d) l)

pub lesser_length-greater : (p : PlaneModel) (s : ℕ → List Turn) (d : ℕ) → reverse_dart p d ≤ d → lesser_length p s d ≡ 0
lesser_length-greater p s d g = cond-false {A = ℕ} (ltb d (reverse_dart p d)) (length (s d)) 0 (le-ltb d (reverse_dart p d) g)

-- both darts of each edge have as many turns
pub lesser_twice : (p : PlaneModel) (a : ℕ → ℕ) (s : ℕ → List Turn) → HasEnds p → Rep p a s →
    sum_below (darts p) (λ d. length (s d)) ≡ 2 * sum_below (darts p) (lesser_length p s)
lesser_twice p a s ends rep =
    let n : ℕ = darts p in
    let part : ℕ → ℕ = lesser_length p s in
    let both : sum_below n (λ d. length (s d)) ≡ sum_below n (λ d. part d + part (reverse_dart p d)) =
    sum_below-same n (λ d. length (s d)) (λ d. part d + part (reverse_dart p d)) (λ d l. one d l) in
    omega (
      arith,
      both,
      sum_below-add n part (λ d. part (reverse_dart p d)),
      sum_below-turned n (reverse_dart p) part ends.reverse_dart_in_range ends.reverse_dart_back,
    )
  where
    one : (d : ℕ) → d < darts p → length (s d) ≡ lesser_length p s d + lesser_length p s (reverse_dart p d)
    one d l =
        let m : ℕ = reverse_dart p d in
        let back : reverse_dart p m ≡ d = ends.reverse_dart_back d l in
        let long : length (s m) ≡ length (s d) = ap (length {A = Turn}) (rep.strings d l) ∙ length-mirrored (s d) in
        elim (cases_lt d m) [
          | inl low ↦ omega (arith, lesser_length-lesser p s d low, lesser_length-greater p s m (omega (arith, back, low)))
          | inr high ↦
              let apart : m ≢ d = ends.reverse_dart_apart d l in
              let lesser : m < reverse_dart p m = less m d (reverse_dart p m) back high apart in
              omega (arith, lesser_length-greater p s d high, lesser_length-lesser p s m lesser, long)
        ]
      where
        less : (m d x : ℕ) → x ≡ d → m ≤ d → m ≢ d → m < x
        less m d x at high apart = omega arith

-- so the turns of the first edges are no more than the bends
pub lesser_few : (p : PlaneModel) (a : ℕ → ℕ) (s : ℕ → List Turn) (k : ℕ) → HasEnds p → Rep p a s → k < darts p →
    sum_below k (lesser_length p s) + lesser_length p s k ≤ bends_of (darts p) s
lesser_few p a s k ends rep inside =
    let n : ℕ = darts p in
    let part : ℕ → ℕ = lesser_length p s in
    let rest : n ≡ (k + 1) + (n - (k + 1)) = omega arith in
    let subdivide : sum_below n part ≡ sum_below (k + 1) part + sum_below (n - (k + 1)) (λ i. part (k + 1 + i)) =
    ap (λ (m : ℕ). sum_below m part) rest ∙ sum_below-split (k + 1) (n - (k + 1)) part in
    half (sum_below n (λ d. length (s d))) (sum_below n part) (sum_below k part + part k) (lesser_twice p a s ends rep)
    (omega (arith, subdivide, sum_below-more k part))
  where
    half : (t b x : ℕ) → t ≡ 2 * b → x ≤ b → x ≤ t / 2
    half t b x even le = omega (arith, even, le)

pub bends_twice : (p : PlaneModel) (a : ℕ → ℕ) (s : ℕ → List Turn) → HasEnds p → Rep p a s →
    2 * bends_of (darts p) s ≡ sum_below (darts p) (λ d. length (s d))
bends_twice p a s ends rep = half (sum_below (darts p) (λ d. length (s d))) (sum_below (darts p) (lesser_length p s)) (lesser_twice p a s ends rep)
  where
    half : (t b : ℕ) → t ≡ 2 * b → 2 * (t / 2) ≡ t
    half t b even = omega (arith, even)
