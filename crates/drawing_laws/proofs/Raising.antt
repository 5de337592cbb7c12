-- Where some coordinates have a property, and coordinates without it can be raised, there are least ones that have it.
use Rattle.std.proofs.Common.{◌≡◌, ◌⊎◌, ℕ, zero, suc, ◌+◌, ◌<◌, ◌≤◌, cond, eqb, arith, ap, inl, inr, eq-eqb, ne_eqb}
use Rattle.std.proofs.lemmas.Bool.{cases_eq, cond-true, cond-false}
use Rattle.common.specs.Sums.{sum_below}
use Rattle.common.proofs.Sums.{sum_below-le, sum_below-lt}

-- the first n coordinates are nowhere above others
abbrev pub AreUnder : ℕ → (ℕ → ℕ) → (ℕ → ℕ) → Type 0
AreUnder n x y = (v : ℕ) → v < n → x v ≤ y v

-- nor above any that have the property
abbrev pub AreLow : ℕ → ((ℕ → ℕ) → Type 0) → (ℕ → ℕ) → Type 0
AreLow n Has x = (y : ℕ → ℕ) → Has y → AreUnder n x y

-- one of the coordinates is less than all above them with the property are there
pub record IsShort (n : ℕ) (Has : (ℕ → ℕ) → Type 0) (x : ℕ → ℕ) : Type 0 where
  pub place : ℕ
  pub need : ℕ
  pub inside : place < n
  pub short : x place < need
  pub enough : (y : ℕ → ℕ) → Has y → AreUnder n x y → need ≤ y place

-- the coordinate at a place in place of the one there
abbrev pub with_at : (ℕ → ℕ) → ℕ → ℕ → ℕ → ℕ
with_at x place need v = cond (eqb v place) need (x v)

there : (x : ℕ → ℕ) (place need v : ℕ) → v ≡ place → with_at x place need v ≡ need
there x place need v is = cond-true (eqb v place) need (x v) (eq-eqb v place is)

elsewhere : (x : ℕ → ℕ) (place need v : ℕ) → (v ≡ place → ⊥) → with_at x place need v ≡ x v
elsewhere x place need v other = cond-false (eqb v place) need (x v) (ne_eqb v place other)

low_raised : (n : ℕ) (Has : (ℕ → ℕ) → Type 0) (x : ℕ → ℕ) → AreLow n Has x → (s : IsShort n Has x) → AreLow n Has (with_at x s.place s.need)
low_raised n Has x low s y has v inside =
    elim (cases_eq v s.place) [
      | inl is ↦ omega (arith, there x s.place s.need v is, s.enough y has (low y has), ap y is)
      | inr other ↦ omega (arith, elsewhere x s.place s.need v other, low y has v inside)
    ]

more_raised : (n : ℕ) (Has : (ℕ → ℕ) → Type 0) (x : ℕ → ℕ) → (s : IsShort n Has x) → sum_below n x < sum_below n (with_at x s.place s.need)
more_raised n Has x s =
    sum_below-lt n s.place x (with_at x s.place s.need) s.inside
    (λ v inside. elim (cases_eq v s.place) [
      | inl is ↦ omega (arith, there x s.place s.need v is, s.short, ap x is)
      | inr other ↦ omega (arith, elsewhere x s.place s.need v other)
    ])
    (let at : with_at x s.place s.need s.place ≡ s.need = there x s.place s.need s.place (omega arith) in omega (arith, at, s.short))

pub least_above : (n room : ℕ) (Has : (ℕ → ℕ) → Type 0) → ((x : ℕ → ℕ) → Has x ⊎ IsShort n Has x)
    → (top : ℕ → ℕ) → Has top → (x : ℕ → ℕ) → AreLow n Has x → sum_below n top ≤ room + sum_below n x
    → (l : ℕ → ℕ) × Has l × AreLow n Has l
least_above n zero Has tells top has x low enough =
    elim (tells x) [
      | inl is ↦ (x, is, low)
      | inr s ↦
          let most = sum_below-le n (with_at x s.place s.need) top (low_raised n Has x low s top has) in
          absurd (let never : ⊥ = omega (arith, most, more_raised n Has x s, enough) in never)
    ]
least_above n (suc room) Has tells top has x low enough =
    elim (tells x) [
      | inl is ↦ (x, is, low)
      | inr s ↦
          least_above n room Has tells top has (with_at x s.place s.need) (low_raised n Has x low s)
          (omega (arith, more_raised n Has x s, enough))
    ]
