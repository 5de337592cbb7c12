-- Lists that are written place by place, from two places on at once.
use Rattle.std.proofs.Common.{◌≡◌, ℕ, ◌+◌, ◌<◌, ◌∙◌, List, length, get_or, set, length-set, arith, sym, ap, inl, inr, get_or-set_same, get_or-set_other}
use Rattle.std.proofs.lemmas.Bool.{cases_eq}
use Rattle.min_cost_flow.specs.declared.network.Arc.{Arc}
use Rattle.min_cost_flow.specs.declared.network.Cap.{Cap}

-- one value more from the beginning on, and one more from place n on
pub first_written : {X : Type 0} (xs : List X) (n j : ℕ) (x y e : X) (f : ℕ → X) → j < n → length xs ≡ n + n → x ≡ f j →
    ((d : ℕ) → d < j → get_or xs d e ≡ f d) → (d : ℕ) → d < j + 1 → get_or (set (set xs j x) (n + j) y) d e ≡ f d
first_written {X} xs n j x y e f b long is before d l =
    elim (cases_eq d j) [
      | inl same ↦
          ap (λ (k : ℕ). get_or (set (set xs j x) (n + j) y) k e) same
          ∙ get_or-set_other (set xs j x) (n + j) j y e (λ q. omega arith)
          ∙ get_or-set_same xs j x e (omega arith) ∙ is ∙ ap f (sym same)
      | inr other ↦
          get_or-set_other (set xs j x) (n + j) d y e (λ q. omega arith)
          ∙ get_or-set_other xs j d x e other ∙ before d (omega arith)
    ]

pub second_written : {X : Type 0} (xs : List X) (n j : ℕ) (x y e : X) (g : ℕ → X) → j < n → length xs ≡ n + n → y ≡ g j →
    ((d : ℕ) → d < j → get_or xs (n + d) e ≡ g d) → (d : ℕ) → d < j + 1 → get_or (set (set xs j x) (n + j) y) (n + d) e ≡ g d
second_written {X} xs n j x y e g b long is before d l =
    elim (cases_eq d j) [
      | inl same ↦
          ap (λ (k : ℕ). get_or (set (set xs j x) (n + j) y) (n + k) e) same
          ∙ get_or-set_same (set xs j x) (n + j) y e (omega (arith, length-set {A = X})) ∙ is ∙ ap g (sym same)
      | inr other ↦
          get_or-set_other (set xs j x) (n + j) (n + d) y e (λ q. other (omega arith))
          ∙ get_or-set_other xs j (n + d) x e (λ q. omega arith) ∙ before d (omega arith)
    ]

-- an arc whose parts are the same
pub arc_alike : (from from' to to' : ℕ) (cap cap' : Cap) (cost : ℕ) → from ≡ from' → to ≡ to' → cap ≡ cap' →
    let one : Arc = record { from = from; to = to; cap = cap; cost = cost } in
    let two : Arc = record { from = from'; to = to'; cap = cap'; cost = cost } in
    one ≡ two
arc_alike from from' to to' cap cap' cost same_from same_to same_cap =
    let first : ℕ → Arc = λ k. record { from = k; to = to; cap = cap; cost = cost } in
    let second : ℕ → Arc = λ k. record { from = from'; to = k; cap = cap; cost = cost } in
    let last : Cap → Arc = λ c. record { from = from'; to = to'; cap = c; cost = cost } in
    ap first same_from ∙ ap second same_to ∙ ap last same_cap
