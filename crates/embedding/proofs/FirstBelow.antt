-- Lemmas on the least number that passes a test.
use Rattle.std.proofs.Common.{◌≡◌, ℕ, zero, suc, ◌<◌, Bool, true, false, refl, ap, inl, inr, arith}
use Rattle.std.proofs.lemmas.Bool.{cases_Bool}
use Rattle.embedding.specs.Darts.{first_below}

-- it is m, where m passes and nothing below does
pub first_below-is : (n m : ℕ) (p : ℕ → Bool) → m < n → p m ≡ true → ((k : ℕ) → k < m → p k ≡ false) → first_below n p ≡ m
first_below-is zero m p below here before = absurd (omega arith)
first_below-is (suc n) zero p below here before = rw here refl
first_below-is (suc n) (suc m) p below here before =
    rw (before 0 (omega arith)) (ap suc (first_below-is n m (λ k. p (suc k)) (omega arith) here (λ k b. before (suc k) (omega arith))))

-- where some number below n passes, it is below n and passes
pub first_below-passes : (n k : ℕ) (p : ℕ → Bool) → k < n → p k ≡ true → (first_below n p < n) × (p (first_below n p) ≡ true)
first_below-passes zero k p below here = absurd (omega arith)
first_below-passes (suc n) zero p below here = rw here (omega arith, here)
first_below-passes (suc n) (suc k) p below here =
    elim (cases_Bool (p 0)) [
      | inl pass ↦ rw pass (omega arith, pass)
      | inr fails ↦
          let rest = first_below-passes n k (λ k. p (suc k)) (omega arith) here in
          rw fails (omega (arith, rest.0), rest.1)
    ]
