-- Sums that are taken in another order, and sums that differ by multiples of four.
use Rattle.std.proofs.Common.{◌≡◌, ◌≤◌, ◌<◌, ℕ, zero, suc, ◌+◌, ◌-◌, ◌*◌, ◌%◌, ◌⊎◌, Bool, true, false, cond, eqb, refl, sym, ap, ◌∙◌, inl, inr, arith}
use Rattle.std.proofs.lemmas.Bool.{cases_eq, cases_lt, eq-eqb, ne_eqb, cond-true, cond-false}
use Rattle.common.specs.Sums.{sum_below}
use Rattle.common.proofs.Sums.{sum_below-same, sum_below-add, sum_below-none, sum_below-lt, sum_below-constant, sum_below-split, sum_below-times, exchanged, exchanged-ones}
use Rattle.embedding.specs.Darts.{IsOneToOne}

-- a sum of those at one place
abbrev pub sum_at : ℕ → (ℕ → ℕ) → ℕ → (ℕ → ℕ) → ℕ
sum_at n at k f = sum_below n (λ d. cond (eqb (at d) k) (f d) 0)

-- ---- one-to-one maps

-- at most one number passes
at_most_one : (n : ℕ) (at : ℕ → ℕ) (k : ℕ) → ((i j : ℕ) → i < n → j < n → at i ≡ at j → i ≡ j) → sum_at n at k (λ _. 1) ≤ 1
at_most_one zero at k one = omega arith
at_most_one (suc n) at k one =
    elim (cases_eq (at n) k) [
      | inl e ↦
          let none : sum_at n at k (λ _. 1) ≡ 0 =
          sum_below-none n (λ d. cond (eqb (at d) k) 1 0)
          (λ i b. cond-false {A = ℕ} (eqb (at i) k) 1 0 (ne_eqb (at i) k (λ q. let same : i ≡ n = one i n (omega arith) (omega arith) (q ∙ sym e) in omega arith))) in
          omega (arith, none, cond-true {A = ℕ} (eqb (at n) k) 1 0 (eq-eqb (at n) k e))
      | inr ne ↦
          omega (arith, at_most_one n at k (λ i j b c. one i j (omega arith) (omega arith)), cond-false {A = ℕ} (eqb (at n) k) 1 0 (ne_eqb (at n) k ne))
    ]

-- summands of at most 1 that sum to n are all 1
all_one : (n : ℕ) (f : ℕ → ℕ) → ((i : ℕ) → i < n → f i ≤ 1) → sum_below n f ≡ n → (i : ℕ) → i < n → f i ≡ 1
all_one n f most total i b =
    elim (cases_lt (f i) 1) [
      | inl less ↦ absurd (omega (arith, sum_below-lt n i f (λ _. 1) b most less, sum_below-constant n 1))
      | inr more ↦ omega (arith, most i b)
    ]

-- a one-to-one map of the numbers below n only reorders a sum
pub reordered : (n : ℕ) (to : ℕ → ℕ) (f : ℕ → ℕ) → IsOneToOne n to → sum_below n (λ i. f (to i)) ≡ sum_below n f
reordered n to f is =
    let count : ℕ → ℕ = λ v. sum_at n to v (λ _. 1) in
    let each : (v : ℕ) → v < n → count v ≡ 1 =
    all_one n count (λ v b. at_most_one n to v is.one) (exchanged-ones n n to is.inside) in
    let by_place : sum_below n (λ v. f v * count v) ≡ sum_below n (λ i. f (to i) * 1) = exchanged n n to (λ _. 1) f is.inside in
    let left : sum_below n (λ v. f v * count v) ≡ sum_below n f =
    sum_below-same n (λ v. f v * count v) f (λ v b. rw (each v b) (omega arith)) in
    let right : sum_below n (λ i. f (to i) * 1) ≡ sum_below n (λ i. f (to i)) =
    sum_below-same n (λ i. f (to i) * 1) (λ i. f (to i)) (λ i b. omega arith) in
    omega arith

-- and one that keeps each number at its place reorders the sum at a place
pub reordered_at : (n : ℕ) (to at : ℕ → ℕ) (k : ℕ) (f : ℕ → ℕ) → IsOneToOne n to → ((i : ℕ) → i < n → at (to i) ≡ at i) → sum_at n at k (λ i. f (to i)) ≡ sum_at n at k f
reordered_at n to at k f is stays =
    sum_below-same n (λ i. cond (eqb (at i) k) (f (to i)) 0) (λ i. cond (eqb (at (to i)) k) (f (to i)) 0)
    (λ i b. ap (λ (p : ℕ). cond (eqb p k) (f (to i)) 0) (sym (stays i b)))
    ∙ reordered n to (λ i. cond (eqb (at i) k) (f i) 0) is

-- ---- sums at a place

choice-add : (b : Bool) (x y : ℕ) → cond b (x + y) 0 ≡ cond b x 0 + cond b y 0
choice-add true x y = refl
choice-add false x y = refl

choice-times : (b : Bool) (c x : ℕ) → cond b (c * x) 0 ≡ c * cond b x 0
choice-times true c x = refl
choice-times false c x = omega arith

pub sum_at-add : (n : ℕ) (at : ℕ → ℕ) (k : ℕ) (f g : ℕ → ℕ) → sum_at n at k (λ i. f i + g i) ≡ sum_at n at k f + sum_at n at k g
sum_at-add n at k f g =
    sum_below-same n (λ i. cond (eqb (at i) k) (f i + g i) 0) (λ i. cond (eqb (at i) k) (f i) 0 + cond (eqb (at i) k) (g i) 0) (λ i b. choice-add (eqb (at i) k) (f i) (g i))
    ∙ sum_below-add n (λ i. cond (eqb (at i) k) (f i) 0) (λ i. cond (eqb (at i) k) (g i) 0)

pub sum_at-times : (n : ℕ) (at : ℕ → ℕ) (k c : ℕ) (f : ℕ → ℕ) → sum_at n at k (λ i. c * f i) ≡ c * sum_at n at k f
sum_at-times n at k c f =
    sum_below-same n (λ i. cond (eqb (at i) k) (c * f i) 0) (λ i. c * cond (eqb (at i) k) (f i) 0) (λ i b. choice-times (eqb (at i) k) c (f i))
    ∙ sum_below-times n c (λ i. cond (eqb (at i) k) (f i) 0)

pub sum_at-same : (n : ℕ) (at : ℕ → ℕ) (k : ℕ) (f g : ℕ → ℕ) → ((i : ℕ) → i < n → f i ≡ g i) → sum_at n at k f ≡ sum_at n at k g
sum_at-same n at k f g same =
    sum_below-same n (λ i. cond (eqb (at i) k) (f i) 0) (λ i. cond (eqb (at i) k) (g i) 0) (λ i b. ap (λ (x : ℕ). cond (eqb (at i) k) x 0) (same i b))

-- ---- up to multiples of four

pub sum-four : (n : ℕ) (f g : ℕ → ℕ) → ((i : ℕ) → i < n → f i % 4 ≡ g i % 4) → sum_below n f % 4 ≡ sum_below n g % 4
sum-four zero f g same = refl
sum-four (suc n) f g same = omega (arith, sum-four n f g (λ i b. same i (omega arith)), same n (omega arith))

choice-four : (b : Bool) (x y : ℕ) → x % 4 ≡ y % 4 → cond b x 0 % 4 ≡ cond b y 0 % 4
choice-four true x y same = same
choice-four false x y same = refl

pub sum_at-four : (n : ℕ) (at : ℕ → ℕ) (k : ℕ) (f g : ℕ → ℕ) → ((i : ℕ) → i < n → f i % 4 ≡ g i % 4) → sum_at n at k f % 4 ≡ sum_at n at k g % 4
sum_at-four n at k f g same =
    sum-four n (λ i. cond (eqb (at i) k) (f i) 0) (λ i. cond (eqb (at i) k) (g i) 0) (λ i b. choice-four (eqb (at i) k) (f i) (g i) (same i b))

-- ---- a stretch of numbers

-- what is 0 but in a stretch of numbers sums to the stretch's sum
pub stretch : (n first len : ℕ) (f : ℕ → ℕ) → first + len ≤ n → ((d : ℕ) → d < n → (d < first) ⊎ (first + len ≤ d) → f d ≡ 0) → sum_below n f ≡ sum_below len (λ i. f (first + i))
stretch n first len f fits none =
    let rest : ℕ = n - (first + len) in
    let whole : n ≡ first + (len + rest) = omega arith in
    let cut : sum_below n f ≡ sum_below first f + sum_below (len + rest) (λ i. f (first + i)) =
    ap (λ (m : ℕ). sum_below m f) whole ∙ sum_below-split first (len + rest) f in
    let inner : sum_below (len + rest) (λ i. f (first + i)) ≡ sum_below len (λ i. f (first + i)) + sum_below rest (λ i. f (first + (len + i))) =
    sum_below-split len rest (λ i. f (first + i)) in
    let before : sum_below first f ≡ 0 = sum_below-none first f (λ d b. none d (omega arith) (inl b)) in
    let behind : sum_below rest (λ i. f (first + (len + i))) ≡ 0 =
    sum_below-none rest (λ i. f (first + (len + i))) (λ i b. none (first + (len + i)) (omega arith) (inr (omega arith))) in
    omega arith
