-- Sums in which at most two summands are not 0, sums of differences, and sums that a map reorders.
use Rattle.std.proofs.Common.{◌≡◌, ◌≤◌, ◌<◌, ℕ, zero, suc, ◌+◌, ◌-◌, ◌*◌, cond, eqb, refl, sym, ap, ◌∙◌, inl, inr, arith}
use Rattle.std.specs.Prelude.{ℤ, pos, ◌+ℤ◌, ◌-ℤ◌}
use Rattle.std.proofs.lemmas.Bool.{cases_eq, eq-eqb, ne_eqb, cond-true, cond-false}
use Rattle.std.proofs.lemmas.Int.{ints}
use Rattle.common.specs.Sums.{sum_below, total_below}
use Rattle.common.proofs.Sums.{sum_below-same, sum_below-le, sum_below-add, sum_below-one, sum_below-some, exchanged}
use Rattle.embedding.specs.Darts.{IsOneToOne}

-- ---- few summands that are not 0

pub total-none : (n : ℕ) (f : ℕ → ℤ) → ((i : ℕ) → i < n → f i ≡ pos 0) → total_below n f ≡ pos 0
total-none zero f none = refl
total-none (suc n) f none =
    let before : total_below n f ≡ pos 0 = total-none n f (λ i b. none i (omega arith)) in
    let last : f n ≡ pos 0 = none n (omega arith) in
    omega (arith, ints)

pub total-one : (n a : ℕ) (f : ℕ → ℤ) → a < n → ((i : ℕ) → i < n → (i ≡ a → ⊥) → f i ≡ pos 0) → total_below n f ≡ f a
total-one zero a f a_in none = absurd (omega arith)
total-one (suc n) a f a_in none =
    elim (cases_eq a n) [
      | inl e ↦
          let before : total_below n f ≡ pos 0 = total-none n f (λ i b. none i (omega arith) (λ k. omega arith)) in
          let last : f a ≡ f n = ap f e in
          omega (arith, ints)
      | inr ne ↦
          let before : total_below n f ≡ f a = total-one n a f (omega arith) (λ i b. none i (omega arith)) in
          let last : f n ≡ pos 0 = none n (omega arith) (λ k. ne (sym k)) in
          omega (arith, ints)
    ]

pub total-two : (n a b : ℕ) (f : ℕ → ℤ) → a < n → b < n → (a ≡ b → ⊥) → ((i : ℕ) → i < n → (i ≡ a → ⊥) → (i ≡ b → ⊥) → f i ≡ pos 0)
    → total_below n f ≡ f a +ℤ f b
total-two zero a b f a_in b_in apart none = absurd (omega arith)
total-two (suc n) a b f a_in b_in apart none =
    elim (cases_eq a n) [
      | inl e ↦
          let off : b ≡ n → ⊥ = λ k. apart (e ∙ sym k) in
          let before : total_below n f ≡ f b = total-one n b f (omega arith) (λ i l. none i (omega arith) (λ k. omega arith)) in
          let last : f a ≡ f n = ap f e in
          omega (arith, ints)
      | inr ne ↦ elim (cases_eq b n) [
        | inl e ↦
            let before : total_below n f ≡ f a = total-one n a f (omega arith) (λ i l off. none i (omega arith) off (λ k. omega arith)) in
            let last : f b ≡ f n = ap f e in
            omega (arith, ints)
        | inr ne' ↦
            let before : total_below n f ≡ f a +ℤ f b = total-two n a b f (omega arith) (omega arith) apart (λ i l. none i (omega arith)) in
            let last : f n ≡ pos 0 = none n (omega arith) (λ k. ne (sym k)) (λ k. ne' (sym k)) in
            omega (arith, ints)
      ]
    ]

-- ---- differences

pub total-minus : (n : ℕ) (f g : ℕ → ℤ) → total_below n (λ i. f i -ℤ g i) ≡ total_below n f -ℤ total_below n g
total-minus zero f g = refl
total-minus (suc n) f g =
    let before : total_below n (λ i. f i -ℤ g i) ≡ total_below n f -ℤ total_below n g = total-minus n f g in
    omega (arith, ints)

-- from each number to the one after it
pub total-steps : (n : ℕ) (f : ℕ → ℤ) → total_below n (λ i. f i -ℤ f (i + 1)) ≡ f 0 -ℤ f n
total-steps zero f = omega (arith, ints)
total-steps (suc n) f =
    let before : total_below n (λ i. f i -ℤ f (i + 1)) ≡ f 0 -ℤ f n = total-steps n f in
    let up : f (n + 1) ≡ f (suc n) = ap f (omega arith) in
    omega (arith, ints)

-- ---- a map, no two numbers to one, reorders a sum

at_most : (n : ℕ) (f : ℕ → ℕ) → IsOneToOne n f → (v : ℕ) → sum_below n (λ i. cond (eqb (f i) v) 1 0) ≤ 1
at_most n f one v =
    let hit : ℕ → ℕ = λ i. cond (eqb (f i) v) 1 0 in
    elim (cases_eq (sum_below n hit) 0) [
      | inl none ↦ omega (arith, none)
      | inr some ↦
          let (d, inside, here) = sum_below-some n hit (omega (arith, some)) in
          elim (cases_eq (f d) v) [
            | inl e ↦
                let same : sum_below n hit ≡ sum_below n (λ i. cond (eqb d i) 1 0) =
                sum_below-same n hit (λ i. cond (eqb d i) 1 0) (λ i c. elim (cases_eq d i) [
                  | inl at ↦ cond-true {A = ℕ} (eqb (f i) v) 1 0 (eq-eqb (f i) v (sym (ap f at) ∙ e))
                      ∙ sym (cond-true {A = ℕ} (eqb d i) 1 0 (eq-eqb d i at))
                  | inr off ↦ cond-false {A = ℕ} (eqb (f i) v) 1 0 (ne_eqb (f i) v (λ h. off (one.one d i inside c (e ∙ sym h))))
                      ∙ sym (cond-false {A = ℕ} (eqb d i) 1 0 (ne_eqb d i off))
                ]) in
                omega (arith, same ∙ sum_below-one n d (λ _. 1) inside)
            | inr ne ↦ absurd (omega (arith, here, cond-false {A = ℕ} (eqb (f d) v) 1 0 (ne_eqb (f d) v ne)))
          ]
    ]

times_few : (h c : ℕ) → c ≤ 1 → h * c ≤ h
times_few h zero few = omega arith
times_few h (suc zero) few = omega arith
times_few h (suc (suc c)) few = absurd (omega arith)

moved_le : (n : ℕ) (f h : ℕ → ℕ) → IsOneToOne n f → sum_below n (λ i. h (f i)) ≤ sum_below n h
moved_le n f h one =
    let count : ℕ → ℕ = λ v. sum_below n (λ i. cond (eqb (f i) v) 1 0) in
    let all : sum_below n (λ v. h v * count v) ≡ sum_below n (λ i. h (f i) * 1) = exchanged n n f (λ _. 1) h one.inside in
    let plain : sum_below n (λ i. h (f i) * 1) ≡ sum_below n (λ i. h (f i)) = sum_below-same n (λ i. h (f i) * 1) (λ i. h (f i)) (λ i b. omega arith) in
    let less : sum_below n (λ v. h v * count v) ≤ sum_below n h = sum_below-le n (λ v. h v * count v) h (λ v b. times_few (h v) (count v) (at_most n f one v)) in
    omega (arith, all, plain, less)

pub moved_same : (n : ℕ) (f h : ℕ → ℕ) → IsOneToOne n f → ((v : ℕ) → h v ≤ 1) → sum_below n (λ i. h (f i)) ≡ sum_below n h
moved_same n f h one few =
    let k : ℕ → ℕ = λ v. 1 - h v in
    let here : sum_below n (λ v. h v + k v) ≡ sum_below n h + sum_below n k = sum_below-add n h k in
    let there : sum_below n (λ i. h (f i) + k (f i)) ≡ sum_below n (λ i. h (f i)) + sum_below n (λ i. k (f i)) = sum_below-add n (λ i. h (f i)) (λ i. k (f i)) in
    let ones : sum_below n (λ v. h v + k v) ≡ sum_below n (λ _. 1) = sum_below-same n (λ v. h v + k v) (λ _. 1) (λ v b. omega (arith, few v)) in
    let ones' : sum_below n (λ i. h (f i) + k (f i)) ≡ sum_below n (λ _. 1) = sum_below-same n (λ i. h (f i) + k (f i)) (λ _. 1) (λ i b. omega (arith, few (f i))) in
    omega (arith, here, there, ones, ones', moved_le n f h one, moved_le n f k one)
