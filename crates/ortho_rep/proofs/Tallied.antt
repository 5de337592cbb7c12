-- Sums that are kept in a list, one at each place.
use Rattle.std.proofs.Common.{◌≡◌, ◌≤◌, ◌<◌, ℕ, ◌+◌, ◌*◌, cond, eqb, List, length, get_or, set, sym, ap, ◌∙◌, inl, inr, arith}
use Rattle.std.proofs.lemmas.Bool.{cases_eq, eq-eqb, ne_eqb, cond-true, cond-false}
use Rattle.std.proofs.lemmas.List.{get_or-set_same, get_or-set_other, length-set}
use Rattle.common.specs.Sums.{sum_below}
use Rattle.common.proofs.Sums.{sum_below-more}

-- the entry at each place is the sum of x over the numbers below n that belong there
pub record IsTally (entries : List ℕ) (n : ℕ) (place x : ℕ → ℕ) : Type 0 where
  pub sums : (k : ℕ) → k < length entries → get_or entries k 0 ≡ sum_below n (λ i. cond (eqb (place i) k) (x i) 0)

-- the next number is added where it belongs
pub tallied : (entries : List ℕ) (n : ℕ) (place x : ℕ → ℕ) (k y : ℕ) → IsTally entries n place x → k < length entries → k ≡ place n → y ≡ x n → IsTally (set entries k (get_or entries k 0 + y)) (n + 1) place x
tallied entries n place x k y tally within here worth = record {
  sums = λ j below.
      let old : get_or entries j 0 ≡ sum_below n (λ i. cond (eqb (place i) j) (x i) 0) = tally.sums j (omega (arith, length-set entries k (get_or entries k 0 + y))) in
      let more : sum_below (n + 1) (λ i. cond (eqb (place i) j) (x i) 0) ≡ sum_below n (λ i. cond (eqb (place i) j) (x i) 0) + cond (eqb (place n) j) (x n) 0 = sum_below-more n (λ i. cond (eqb (place i) j) (x i) 0) in
      elim (cases_eq j k) [
        | inl e ↦
            let written : get_or (set entries k (get_or entries k 0 + y)) j 0 ≡ get_or entries k 0 + y = ap (λ (z : ℕ). get_or (set entries k (get_or entries k 0 + y)) z 0) e ∙ get_or-set_same entries k (get_or entries k 0 + y) 0 within in
            let added : cond (eqb (place n) j) (x n) 0 ≡ x n = cond-true (eqb (place n) j) (x n) 0 (eq-eqb (place n) j (sym here ∙ sym e)) in
            omega (arith, ap (λ (z : ℕ). get_or entries z 0) e)
        | inr ne ↦
            let kept : get_or (set entries k (get_or entries k 0 + y)) j 0 ≡ get_or entries j 0 = get_or-set_other entries k j (get_or entries k 0 + y) 0 ne in
            let added : cond (eqb (place n) j) (x n) 0 ≡ 0 = cond-false (eqb (place n) j) (x n) 0 (ne_eqb (place n) j (λ q. ne (sym q ∙ sym here))) in
            omega arith
      ];
}

-- no entry grows by more than m
pub tallied-bound : (entries : List ℕ) (n m k y : ℕ) → ((j : ℕ) → j < length entries → get_or entries j 0 ≤ m * n) → k < length entries → y ≤ m → (j : ℕ) → j < length (set entries k (get_or entries k 0 + y)) → get_or (set entries k (get_or entries k 0 + y)) j 0 ≤ m * (n + 1)
tallied-bound entries n m k y bound within small j below =
    elim (cases_eq j k) [
      | inl e ↦
          let written : get_or (set entries k (get_or entries k 0 + y)) j 0 ≡ get_or entries k 0 + y = ap (λ (z : ℕ). get_or (set entries k (get_or entries k 0 + y)) z 0) e ∙ get_or-set_same entries k (get_or entries k 0 + y) 0 within in
          omega (arith, bound k within)
      | inr ne ↦
          let kept : get_or (set entries k (get_or entries k 0 + y)) j 0 ≡ get_or entries j 0 = get_or-set_other entries k j (get_or entries k 0 + y) 0 ne in
          omega (arith, bound j (omega (arith, length-set entries k (get_or entries k 0 + y))))
    ]
