-- Lemmas on sums over the numbers below a bound.
use Rattle.std.proofs.Common.{◌≡◌, ◌≤◌, ◌<◌, ℕ, zero, suc, ◌+◌, ◌*◌, Bool, true, false, cond, eqb, refl, sym, ap, ◌∙◌, subst, inl, inr, add-one, add-zero, arith}
use Rattle.std.specs.Prelude.{ℤ, pos, ◌+ℤ◌, ◌-ℤ◌, ◌≤ℤ◌}
use Rattle.std.proofs.lemmas.Bool.{cases_eq, eq-eqb, ne_eqb, cond-true, cond-false}
use Rattle.std.proofs.lemmas.Int.{ints}
use Rattle.std.proofs.Math.Nat.{mul-add}
use Rattle.common.specs.Sums.{sum_below, total_below}

-- ---- sums of naturals

-- one more number
pub sum_below-more : (n : ℕ) (f : ℕ → ℕ) → sum_below (n + 1) f ≡ sum_below n f + f n
sum_below-more n f = rw add-one refl

-- equal summands
pub sum_below-same : (n : ℕ) (f g : ℕ → ℕ) → ((i : ℕ) → i < n → f i ≡ g i) → sum_below n f ≡ sum_below n g
sum_below-same zero f g h = refl
sum_below-same (suc n) f g h =
    omega (arith, sum_below-same n f g (λ i b. h i (omega arith)), h n (omega arith))

-- no summand is larger
pub sum_below-le : (n : ℕ) (f g : ℕ → ℕ) → ((i : ℕ) → i < n → f i ≤ g i) → sum_below n f ≤ sum_below n g
sum_below-le zero f g h = omega arith
sum_below-le (suc n) f g h =
    omega (arith, sum_below-le n f g (λ i b. h i (omega arith)), h n (omega arith))

-- no summand is larger, and the one at a is smaller
pub sum_below-lt : (n a : ℕ) (f g : ℕ → ℕ) → a < n → ((i : ℕ) → i < n → f i ≤ g i) → f a < g a → sum_below n f < sum_below n g
sum_below-lt zero a f g b h l = absurd (omega arith)
sum_below-lt (suc n) a f g b h l =
    elim (cases_eq a n) [
      | inl e ↦ let last : f n < g n = subst (λ (k : ℕ). f k < g k) e l in
          omega (arith, last, sum_below-le n f g (λ i c. h i (omega arith)))
      | inr ne ↦ omega (arith, sum_below-lt n a f g (omega arith) (λ i c. h i (omega arith)) l, h n (omega arith))
    ]

-- all summands 0
pub sum_below-none : (n : ℕ) (f : ℕ → ℕ) → ((i : ℕ) → i < n → f i ≡ 0) → sum_below n f ≡ 0
sum_below-none zero f h = refl
sum_below-none (suc n) f h =
    omega (arith, sum_below-none n f (λ i b. h i (omega arith)), h n (omega arith))

-- one summand is no more than the sum
pub sum_below-member : (n a : ℕ) (f : ℕ → ℕ) → a < n → f a ≤ sum_below n f
sum_below-member zero a f b = absurd (omega arith)
sum_below-member (suc n) a f b =
    elim (cases_eq a n) [
      | inl e ↦ let last : f a ≡ f n = ap f e in omega arith
      | inr ne ↦ omega (arith, sum_below-member n a f (omega arith))
    ]

-- a sum that is not 0 has a summand that is not 0
pub sum_below-some : (n : ℕ) (f : ℕ → ℕ) → 0 < sum_below n f → (a : ℕ) × (a < n) × (0 < f a)
sum_below-some zero f h = absurd (omega arith)
sum_below-some (suc n) f h =
    elim (cases_eq (f n) 0) [
      | inl e ↦ let (a, b, p) = sum_below-some n f (omega arith) in (a, omega arith, p)
      | inr ne ↦ (n, omega arith, omega arith)
    ]

-- one summand c everywhere
pub sum_below-constant : (n c : ℕ) → sum_below n (λ _. c) ≡ n * c
sum_below-constant zero c = omega arith
sum_below-constant (suc n) c = omega (arith, sum_below-constant n c)

-- a sum of sums
pub sum_below-add : (n : ℕ) (f g : ℕ → ℕ) → sum_below n (λ i. f i + g i) ≡ sum_below n f + sum_below n g
sum_below-add zero f g = refl
sum_below-add (suc n) f g = omega (arith, sum_below-add n f g)

-- a common factor
pub sum_below-times : (n c : ℕ) (f : ℕ → ℕ) → sum_below n (λ i. c * f i) ≡ c * sum_below n f
sum_below-times zero c f = omega arith
sum_below-times (suc n) c f = omega (arith, sum_below-times n c f, mul-add c (sum_below n f) (f n))

-- the first m summands, and then n more
pub sum_below-split : (m n : ℕ) (f : ℕ → ℕ) → sum_below (m + n) f ≡ sum_below m f + sum_below n (λ i. f (m + i))
sum_below-split m zero f = rw add-zero (omega arith)
sum_below-split m (suc n) f =
    let one : m + suc n ≡ suc (m + n) = omega arith in
    rw one (omega (arith, sum_below-split m n f))

-- one summand differs: each sum with the other's summand is one number
pub sum_below-changed : (n a : ℕ) (f g : ℕ → ℕ) → a < n → ((i : ℕ) → i < n → (i ≡ a → ⊥) → f i ≡ g i) → sum_below n f + g a ≡ sum_below n g + f a
sum_below-changed zero a f g b h = absurd (omega arith)
sum_below-changed (suc n) a f g b h =
    elim (cases_eq a n) [
      | inl e ↦ let same : sum_below n f ≡ sum_below n g = sum_below-same n f g (λ i c. h i (omega arith) (λ k. omega arith)) in
          let here : f a ≡ f n = ap f e in
          let there : g a ≡ g n = ap g e in
          omega arith
      | inr ne ↦ omega (arith, sum_below-changed n a f g (omega arith) (λ i c. h i (omega arith)), h n (omega arith) (λ k. ne (sym k)))
    ]

-- the one summand that passes the test
pub sum_below-one : (n a : ℕ) (f : ℕ → ℕ) → a < n → sum_below n (λ i. cond (eqb a i) (f i) 0) ≡ f a
sum_below-one zero a f b = absurd (omega arith)
sum_below-one (suc n) a f b =
    elim (cases_eq a n) [
      | inl e ↦ let none : sum_below n (λ i. cond (eqb a i) (f i) 0) ≡ 0 = sum_below-none n (λ i. cond (eqb a i) (f i) 0) (λ i c. cond-false (eqb a i) (f i) 0 (ne_eqb a i (λ k. omega arith))) in
          let last : cond (eqb a n) (f n) 0 ≡ f n = cond-true (eqb a n) (f n) 0 (eq-eqb a n e) in
          let here : f a ≡ f n = ap f e in
          omega arith
      | inr ne ↦ let last : cond (eqb a n) (f n) 0 ≡ 0 = cond-false (eqb a n) (f n) 0 (ne_eqb a n ne) in
          omega (arith, sum_below-one n a f (omega arith))
    ]

-- a factor goes into a choice
times_cond : (b : Bool) (k x : ℕ) → k * cond b x 0 ≡ cond b (k * x) 0
times_cond true k x = refl
times_cond false k x = omega arith

-- ---- sums of sums

-- the order of two sums
pub sum_below-swapped : (m n : ℕ) (f : ℕ → ℕ → ℕ) → sum_below m (λ i. sum_below n (λ j. f i j)) ≡ sum_below n (λ j. sum_below m (λ i. f i j))
sum_below-swapped zero n f = sym (sum_below-none n (λ j. sum_below zero (λ i. f i j)) (λ i b. refl))
sum_below-swapped (suc m) n f =
    omega (arith, sum_below-swapped m n f, sum_below-add n (λ j. sum_below m (λ i. f i j)) (λ j. f m j))

-- what is sorted by place, summed over the places with weights, is the sum of each with its place's weight
pub exchanged : (m n : ℕ) (at : ℕ → ℕ) (x w : ℕ → ℕ) → ((i : ℕ) → i < m → at i < n) → sum_below n (λ v. w v * sum_below m (λ i. cond (eqb (at i) v) (x i) 0)) ≡ sum_below m (λ i. w (at i) * x i)
exchanged zero n at x w h = sum_below-none n (λ v. w v * 0) (λ v b. omega arith)
exchanged (suc m) n at x w h =
    let before = λ (v : ℕ). sum_below m (λ i. cond (eqb (at i) v) (x i) 0) in
    let here = λ (v : ℕ). cond (eqb (at m) v) (x m) 0 in
    let parted : sum_below n (λ v. w v * (before v + here v)) ≡ sum_below n (λ v. w v * before v + w v * here v) =
    sum_below-same n (λ v. w v * (before v + here v)) (λ v. w v * before v + w v * here v) (λ v b. mul-add (w v) (before v) (here v)) in
    let both : sum_below n (λ v. w v * before v + w v * here v) ≡ sum_below n (λ v. w v * before v) + sum_below n (λ v. w v * here v) =
    sum_below-add n (λ v. w v * before v) (λ v. w v * here v) in
    let inside : sum_below n (λ v. w v * here v) ≡ sum_below n (λ v. cond (eqb (at m) v) (w v * x m) 0) =
    sum_below-same n (λ v. w v * here v) (λ v. cond (eqb (at m) v) (w v * x m) 0) (λ v b. times_cond (eqb (at m) v) (w v) (x m)) in
    let one : sum_below n (λ v. cond (eqb (at m) v) (w v * x m) 0) ≡ w (at m) * x m =
    sum_below-one n (at m) (λ v. w v * x m) (h m (omega arith)) in
    let rest : sum_below n (λ v. w v * before v) ≡ sum_below m (λ i. w (at i) * x i) =
    exchanged m n at x w (λ i b. h i (omega arith)) in
    omega arith

-- how many numbers have each place: as many as there are numbers
pub exchanged-ones : (m n : ℕ) (at : ℕ → ℕ) → ((i : ℕ) → i < m → at i < n) → sum_below n (λ v. sum_below m (λ i. cond (eqb (at i) v) 1 0)) ≡ m
exchanged-ones m n at h =
    let weighed : sum_below n (λ v. 1 * sum_below m (λ i. cond (eqb (at i) v) 1 0)) ≡ sum_below m (λ i. 1 * 1) = exchanged m n at (λ _. 1) (λ _. 1) h in
    let plain : sum_below n (λ v. 1 * sum_below m (λ i. cond (eqb (at i) v) 1 0)) ≡ sum_below n (λ v. sum_below m (λ i. cond (eqb (at i) v) 1 0)) =
    sum_below-same n (λ v. 1 * sum_below m (λ i. cond (eqb (at i) v) 1 0)) (λ v. sum_below m (λ i. cond (eqb (at i) v) 1 0)) (λ v b. omega arith) in
    omega (arith, sum_below-constant m 1)

-- where two numbers are paired, each is the other's pair
paired : (n : ℕ) (pair : ℕ → ℕ) → ((i : ℕ) → i < n → pair (pair i) ≡ i) → (v i : ℕ) → v < n → i < n → eqb (pair i) v ≡ eqb (pair v) i
paired n pair back v i b c =
    elim (cases_eq (pair i) v) [
      | inl e ↦ let pv : pair v ≡ i = ap pair (sym e) ∙ back i c in eq-eqb (pair i) v e ∙ sym (eq-eqb (pair v) i pv)
      | inr ne ↦ let pv : pair v ≡ i → ⊥ = λ k. ne (ap pair (sym k) ∙ back v b) in ne_eqb (pair i) v ne ∙ sym (ne_eqb (pair v) i pv)
    ]

-- an involution of the numbers below n only reorders a sum
pub sum_below-turned : (n : ℕ) (pair : ℕ → ℕ) (f : ℕ → ℕ) → ((i : ℕ) → i < n → pair i < n) → ((i : ℕ) → i < n → pair (pair i) ≡ i) → sum_below n (λ i. f (pair i)) ≡ sum_below n f
sum_below-turned n pair f inside back =
    let at : ℕ → ℕ → ℕ = λ v i. cond (eqb (pair i) v) 1 0 in
    let one : (v : ℕ) → v < n → sum_below n (at v) ≡ 1 = λ v b.
    let same : sum_below n (at v) ≡ sum_below n (λ i. cond (eqb (pair v) i) 1 0) =
    sum_below-same n (at v) (λ i. cond (eqb (pair v) i) 1 0) (λ i c. ap (λ (t : Bool). cond t 1 0) (paired n pair back v i b c)) in
    same ∙ sum_below-one n (pair v) (λ _. 1) (inside v b) in
    let by_place : sum_below n (λ v. f v * sum_below n (at v)) ≡ sum_below n (λ i. f (pair i) * 1) =
    exchanged n n pair (λ _. 1) f inside in
    let all : sum_below n (λ v. f v * sum_below n (at v)) ≡ sum_below n f =
    sum_below-same n (λ v. f v * sum_below n (at v)) f (λ v b. rw (one v b) (omega arith)) in
    let plain : sum_below n (λ i. f (pair i) * 1) ≡ sum_below n (λ i. f (pair i)) =
    sum_below-same n (λ i. f (pair i) * 1) (λ i. f (pair i)) (λ i b. omega arith) in
    omega arith

-- ---- sums of whole numbers of either sign

-- equal summands
pub total_below-same : (n : ℕ) (f g : ℕ → ℤ) → ((i : ℕ) → i < n → f i ≡ g i) → total_below n f ≡ total_below n g
total_below-same zero f g h = refl
total_below-same (suc n) f g h =
    let before : total_below n f ≡ total_below n g = total_below-same n f g (λ i b. h i (omega arith)) in
    let last : f n ≡ g n = h n (omega arith) in
    omega (arith, ints)

-- a sum of differences is the difference of the sums
pub total_below-parts : (n : ℕ) (f : ℕ → ℤ) (g h : ℕ → ℕ) → ((i : ℕ) → i < n → f i ≡ pos (g i) -ℤ pos (h i)) → total_below n f ≡ pos (sum_below n g) -ℤ pos (sum_below n h)
total_below-parts zero f g h e = omega (arith, ints)
total_below-parts (suc n) f g h e =
    let before : total_below n f ≡ pos (sum_below n g) -ℤ pos (sum_below n h) = total_below-parts n f g h (λ i b. e i (omega arith)) in
    let last : f n ≡ pos (g n) -ℤ pos (h n) = e n (omega arith) in
    omega (arith, ints)

-- of numbers that are not negative
pub total_below-pos : (n : ℕ) (g : ℕ → ℕ) → total_below n (λ i. pos (g i)) ≡ pos (sum_below n g)
total_below-pos zero g = refl
total_below-pos (suc n) g =
    let before : total_below n (λ i. pos (g i)) ≡ pos (sum_below n g) = total_below-pos n g in
    omega (arith, ints)

-- a sum of sums
pub total_below-add : (n : ℕ) (f g : ℕ → ℤ) → total_below n (λ i. f i +ℤ g i) ≡ total_below n f +ℤ total_below n g
total_below-add zero f g = refl
total_below-add (suc n) f g =
    let before : total_below n (λ i. f i +ℤ g i) ≡ total_below n f +ℤ total_below n g = total_below-add n f g in
    omega (arith, ints)

-- no summand is larger
pub total_below-le : (n : ℕ) (f g : ℕ → ℤ) → ((i : ℕ) → i < n → f i ≤ℤ g i) → total_below n f ≤ℤ total_below n g
total_below-le zero f g h = omega (arith, ints)
total_below-le (suc n) f g h =
    let before : total_below n f ≤ℤ total_below n g = total_below-le n f g (λ i b. h i (omega arith)) in
    let last : f n ≤ℤ g n = h n (omega arith) in
    omega (arith, ints)

-- the first m summands, and then n more
pub total_below-split : (m n : ℕ) (f : ℕ → ℤ) → total_below (m + n) f ≡ total_below m f +ℤ total_below n (λ i. f (m + i))
total_below-split m zero f = rw add-zero (omega (arith, ints))
total_below-split m (suc n) f =
    let one : m + suc n ≡ suc (m + n) = omega arith in
    let before : total_below (m + n) f ≡ total_below m f +ℤ total_below n (λ i. f (m + i)) = total_below-split m n f in
    rw one (omega (arith, ints))
