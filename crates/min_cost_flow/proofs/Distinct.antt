-- Sums over numbers that are all different.
use Rattle.std.proofs.Common.{◌≡◌, ◌≢◌, ◌≤◌, ◌<◌, ℕ, zero, suc, ◌+◌, ◌*◌, cond, eqb, refl, sym, ◌∙◌, inl, inr, arith}
use Rattle.std.proofs.Math.Nat.{mul-le-mul_left}
use Rattle.std.proofs.lemmas.Bool.{cases_eq, eq-eqb, ne_eqb, cond-true, cond-false}
use Rattle.common.specs.Sums.{sum_below}
use Rattle.common.proofs.Sums.{sum_below-same, sum_below-le, sum_below-none, sum_below-changed, sum_below-constant, exchanged}

-- no two of the first k numbers are the same
abbrev pub AreDistinct : ℕ → (ℕ → ℕ) → Type 0
AreDistinct k at = (i j : ℕ) → i < k → j < k → at i ≡ at j → i ≡ j

-- how often a number is met, which is once at most
pub counted_once : (k : ℕ) (at : ℕ → ℕ) (v : ℕ) → AreDistinct k at → sum_below k (λ i. cond {A = ℕ} (eqb (at i) v) 1 0) ≤ 1
counted_once zero at v d = omega arith
counted_once (suc k) at v d =
    elim (cases_eq (at k) v) [
      | inl h ↦
          let none : sum_below k (λ i. cond {A = ℕ} (eqb (at i) v) 1 0) ≡ 0 =
          sum_below-none k (λ i. cond {A = ℕ} (eqb (at i) v) 1 0) (λ i b. cond-false {A = ℕ} (eqb (at i) v) 1 0 (ne_eqb (at i) v (λ e. let s : i ≡ k = d i k (omega arith) (omega arith) (e ∙ sym h) in absurd (omega arith)))) in
          let one : cond {A = ℕ} (eqb (at k) v) 1 0 ≡ 1 = cond-true {A = ℕ} (eqb (at k) v) 1 0 (eq-eqb (at k) v h) in
          omega arith
      | inr ne ↦
          let less : sum_below k (λ i. cond {A = ℕ} (eqb (at i) v) 1 0) ≤ 1 = counted_once k at v (λ i j a b e. d i j (omega arith) (omega arith) e) in
          let none : cond {A = ℕ} (eqb (at k) v) 1 0 ≡ 0 = cond-false {A = ℕ} (eqb (at k) v) 1 0 (ne_eqb (at k) v ne) in
          omega arith
    ]

times_one : (w c : ℕ) → c ≤ 1 → w * c ≤ w
times_one w c h = omega (arith, mul-le-mul_left w h)

-- a sum over different numbers below n is no more than the sum over all of them
pub distinct_sum : (k n : ℕ) (at w : ℕ → ℕ) → ((j : ℕ) → j < k → at j < n) → AreDistinct k at → sum_below k (λ j. w (at j)) ≤ sum_below n w
distinct_sum k n at w inside d =
    let all : sum_below n (λ v. w v * sum_below k (λ i. cond {A = ℕ} (eqb (at i) v) 1 0)) ≡ sum_below k (λ i. w (at i) * 1) = exchanged k n at (λ _. 1) w inside in
    let le : sum_below n (λ v. w v * sum_below k (λ i. cond {A = ℕ} (eqb (at i) v) 1 0)) ≤ sum_below n w =
    sum_below-le n (λ v. w v * sum_below k (λ i. cond {A = ℕ} (eqb (at i) v) 1 0)) w (λ v b. times_one (w v) (sum_below k (λ i. cond {A = ℕ} (eqb (at i) v) 1 0)) (counted_once k at v d)) in
    let plain : sum_below k (λ i. w (at i) * 1) ≡ sum_below k (λ j. w (at j)) = sum_below-same k (λ i. w (at i) * 1) (λ j. w (at j)) (λ i b. omega arith) in
    omega arith

-- different numbers below n, none of which is v, leave a place
pub room_for : (k n : ℕ) (at : ℕ → ℕ) (v : ℕ) → ((j : ℕ) → j < k → at j < n) → AreDistinct k at → v < n → ((j : ℕ) → j < k → at j ≢ v) → k < n
room_for k n at v inside d b other =
    let w : ℕ → ℕ = λ u. cond {A = ℕ} (eqb v u) 0 1 in
    let le : sum_below k (λ j. w (at j)) ≤ sum_below n w = distinct_sum k n at w inside d in
    let full : sum_below k (λ j. w (at j)) ≡ sum_below k (λ _. 1) = sum_below-same k (λ j. w (at j)) (λ _. 1) (λ j c. cond-false {A = ℕ} (eqb v (at j)) 0 1 (ne_eqb v (at j) (λ e. other j c (sym e)))) in
    let less : sum_below n w + 1 ≡ sum_below n (λ _. 1) + w v = sum_below-changed n v w (λ _. 1) b (λ u c ne. cond-false {A = ℕ} (eqb v u) 0 1 (ne_eqb v u (λ e. ne (sym e)))) in
    let none : w v ≡ 0 = cond-true {A = ℕ} (eqb v v) 0 1 (eq-eqb v v refl) in
    omega (arith, sum_below-constant k 1, sum_below-constant n 1)
