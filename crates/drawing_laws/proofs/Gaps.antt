-- Numbers that all occur are no more than the places at which they occur.
use Rattle.std.proofs.Common.{◌≡◌, ◌≢◌, ◌⊎◌, ℕ, zero, suc, ◌<◌, ◌≤◌, ◌∙◌, cond, eqb, arith, sym, ap, inl, inr, eq-eqb, ne_eqb}
use Rattle.std.proofs.lemmas.Bool.{cases_eq, cases_lt, cond-true, cond-false}
use Rattle.common.specs.Sums.{sum_below}
use Rattle.common.proofs.Sums.{sum_below-le, sum_below-none, sum_below-member, sum_below-constant, sum_below-one, sum_below-swapped}

-- the number k stands at one of the first n places
pub record Occurs (n : ℕ) (f : ℕ → ℕ) (k : ℕ) : Type 0 where
  pub place : ℕ
  pub inside : place < n
  pub is : f place ≡ k

-- it does or it does not
pub occurs : (n : ℕ) (f : ℕ → ℕ) (k : ℕ) → Occurs n f k ⊎ ((u : ℕ) → u < n → f u ≢ k)
occurs zero f k = inr (λ u inside e. omega (arith, inside))
occurs (suc n) f k =
    elim (cases_eq (f n) k) [
      | inl is ↦ inl (record { place = n; inside = omega arith; is = is })
      | inr other ↦
          elim (occurs n f k) [
            | inl o ↦ inl (record { place = o.place; inside = omega (arith, o.inside); is = o.is })
            | inr none ↦ inr (λ u inside e. elim (cases_eq u n) [
              | inl last ↦ other (sym (ap f last) ∙ e)
              | inr before ↦ none u (omega (arith, inside, before)) e
            ])
          ]
    ]

-- one where the number at a place is k
delta : (ℕ → ℕ) → ℕ → ℕ → ℕ
delta f k u = cond (eqb (f u) k) 1 0

-- a place has one number
one_number : (m a : ℕ) → sum_below m (λ k. cond (eqb a k) 1 0) ≤ 1
one_number m a =
    elim (cases_lt a m) [
      | inl inside ↦ omega (arith, sum_below-one m a (λ _. 1) inside)
      | inr beyond ↦ omega (arith, sum_below-none m (λ k. cond (eqb a k) 1 0) (λ k inside. cond-false (eqb a k) 1 0 (ne_eqb a k (λ e. omega (arith, beyond, inside, e)))))
    ]

pub no_more : (m n : ℕ) (f : ℕ → ℕ) → ((k : ℕ) → k < m → Occurs n f k) → m ≤ n
unfolding delta
no_more m n f all =
    let once : sum_below m (λ _. 1) ≤ sum_below m (λ k. sum_below n (delta f k)) =
    sum_below-le m (λ _. 1) (λ k. sum_below n (delta f k)) (λ k inside.
    let o = all k inside in
    let some : delta f k o.place ≡ 1 = cond-true (eqb (f o.place) k) 1 0 (eq-eqb (f o.place) k o.is) in
    omega (arith, some, sum_below-member n o.place (delta f k) o.inside)) in
    let few : sum_below n (λ u. sum_below m (λ k. delta f k u)) ≤ sum_below n (λ _. 1) =
    sum_below-le n (λ u. sum_below m (λ k. delta f k u)) (λ _. 1) (λ u inside. one_number m (f u)) in
    omega (arith, once, few, sum_below-swapped m n (delta f), sum_below-constant m 1, sum_below-constant n 1)
