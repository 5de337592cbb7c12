-- Sums and maps over the numbers below a bound.
use Rattle.std.proofs.Common.{◌≡◌, ◌≢◌, ℕ, ◌+◌, ◌<◌, ◌≤◌, cond, eqb, ◌∙◌, arith, sym, ap, inl, inr, refl}
use Rattle.std.proofs.lemmas.Bool.{cases_eq, eq-eqb, ne_eqb, cond-true, cond-false}
use Rattle.common.specs.Sums.{sum_below}
use Rattle.common.proofs.Sums.{sum_below-more, sum_below-same, sum_below-changed, sum_below-lt, sum_below-one, sum_below-some, sum_below-constant, exchanged-ones}
use Rattle.embedding.specs.Darts.{IsOneToOne}

-- a map of the numbers below n to such numbers, no two to one, meets each of them
pub onto : (n : ℕ) (f : ℕ → ℕ) → IsOneToOne n f → (v : ℕ) → v < n → (d : ℕ) × (d < n) × (f d ≡ v)
onto n f one v b =
    let hit : ℕ → ℕ → ℕ = λ v i. cond (eqb (f i) v) 1 0 in
    let count : ℕ → ℕ = λ v. sum_below n (hit v) in
    let all : sum_below n count ≡ n = exchanged-ones n n f one.inside in
    let each : (v : ℕ) → v < n → count v ≤ 1 = λ v b. at_most n f one v in
    elim (cases_eq (count v) 0) [
      | inl none ↦
          let less : sum_below n count < sum_below n (λ _. 1) = sum_below-lt n v count (λ _. 1) b each (omega (arith, none)) in
          absurd (omega (arith, less, all, sum_below-constant n 1))
      | inr some ↦
          let (d, inside, here) = sum_below-some n (hit v) (omega (arith, some)) in
          elim (cases_eq (f d) v) [
            | inl e ↦ (d, inside, e)
            | inr ne ↦ absurd (omega (arith, here, cond-false {A = ℕ} (eqb (f d) v) 1 0 (ne_eqb (f d) v ne)))
          ]
    ]
  where
    at_most : (n : ℕ) (f : ℕ → ℕ) → IsOneToOne n f → (v : ℕ) → sum_below n (λ i. cond (eqb (f i) v) 1 0) ≤ 1
    at_most n f one v =
        let hit : ℕ → ℕ = λ i. cond (eqb (f i) v) 1 0 in
        elim (cases_eq (sum_below n hit) 0) [
          | inl none ↦ omega (arith, none)
          | inr some ↦
              let (d, inside, here) = sum_below-some n hit (omega (arith, some)) in
              elim (cases_eq (f d) v) [
                | inl e ↦
                    let same : sum_below n hit ≡ sum_below n (λ i. cond (eqb d i) 1 0) =
                    sum_below-same n hit (λ i. cond (eqb d i) 1 0) (λ i c. elim (cases_eq d i) [
                      | inl at ↦ cond-true {A = ℕ} (eqb (f i) v) 1 0 (eq-eqb (f i) v (sym (ap f at) ∙ e))
                          ∙ sym (cond-true {A = ℕ} (eqb d i) 1 0 (eq-eqb d i at))
                      | inr off ↦ cond-false {A = ℕ} (eqb (f i) v) 1 0 (ne_eqb (f i) v (λ h. off (one.one d i inside c (e ∙ sym h))))
                          ∙ sym (cond-false {A = ℕ} (eqb d i) 1 0 (ne_eqb d i off))
                    ]) in
                    omega (arith, same ∙ sum_below-one n d (λ _. 1) inside)
                | inr ne ↦ absurd (omega (arith, here, cond-false {A = ℕ} (eqb (f d) v) 1 0 (ne_eqb (f d) v ne)))
              ]
        ]

-- two more numbers, where the summands at two places change
pub sum_below-two_more : (n e t : ℕ) (f g : ℕ → ℕ) → e < n → t < n → t ≢ e →
    ((x : ℕ) → x < n → x ≢ e → x ≢ t → g x ≡ f x) →
    sum_below (n + 2) g + (f e + f t) ≡ sum_below n f + (g e + g t) + (g n + g (n + 1))
sum_below-two_more n e t f g e_in t_in apart same =
    let m : ℕ → ℕ = λ x. cond (eqb x t) (f t) (g x) in
    let m_t : m t ≡ f t = cond-true {A = ℕ} (eqb t t) (f t) (g t) (eq-eqb t t refl) in
    let m_other : (x : ℕ) → x ≢ t → m x ≡ g x = λ x off. cond-false {A = ℕ} (eqb x t) (f t) (g x) (ne_eqb x t off) in
    let first : sum_below n f + m e ≡ sum_below n m + f e =
    sum_below-changed n e f m e_in (λ x l off. elim (cases_eq x t) [
      | inl at ↦ ap f at ∙ sym m_t ∙ sym (ap m at)
      | inr not_t ↦ sym (same x l off not_t) ∙ sym (m_other x not_t)
    ]) in
    let second : sum_below n m + g t ≡ sum_below n g + m t = sum_below-changed n t m g t_in (λ x l off. m_other x off) in
    let m_e : m e ≡ g e = m_other e (λ h. apart (sym h)) in
    let two : n + 2 ≡ (n + 1) + 1 = omega arith in
    let more : sum_below (n + 2) g ≡ sum_below n g + g n + g (n + 1) =
    ap (λ (k : ℕ). sum_below k g) two ∙ sum_below-more (n + 1) g ∙ ap (λ (k : ℕ). k + g (n + 1)) (sum_below-more n g) in
    omega (arith, first, second, m_e, m_t, more)
