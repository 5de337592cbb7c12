-- Marks that are set one after another.
use Rattle.std.proofs.Common.{◌≡◌, ◌∙◌, ◌↔◌, ℕ, ◌+◌, ◌<◌, Bool, true, false, List, length, replicate, set, cond, refl, sym, ap, subst, inl, inr, arith}
use Rattle.std.proofs.lemmas.Bool.{cases_eq, both_ways}
use Rattle.std.proofs.lemmas.List.{get_or-replicate, get_or-set_same, get_or-set_other}
use Rattle.flow_network.specs.Marks.{is_marked}

-- one of the first n items, with this place, has the property
abbrev pub HasOneAt : (ℕ → ℕ) → (ℕ → Type 0) → ℕ → ℕ → Type 0
HasOneAt place P n k = (d : ℕ) × (d < n) × (place d ≡ k) × P d

-- of the places below `size` exactly those of the items with P are marked
abbrev pub AreMarkedBelow : (ℕ → ℕ) → (ℕ → Type 0) → ℕ → ℕ → List Bool → Type 0
AreMarkedBelow place P size n marks = (k : ℕ) → k < size → (is_marked marks k ≡ true) ↔ HasOneAt place P n k

pub none_marked : (place : ℕ → ℕ) (P : ℕ → Type 0) (size : ℕ) → AreMarkedBelow place P size 0 (replicate size false)
none_marked place P size = λ k lt. (
  λ e. absurd (both_ways (is_marked (replicate size false) k) (get_or-replicate size k false false lt) e),
  λ (d, none, at, is). absurd (omega (arith, none)),
)

-- an item of an earlier one
still_one : (place : ℕ → ℕ) (P : ℕ → Type 0) (n k : ℕ) → HasOneAt place P n k → HasOneAt place P (n + 1) k
still_one place P n k (d, lt, at, is) = (d, omega (arith, lt), at, is)

-- an item without the property changes nothing
pub kept_marked : (place : ℕ → ℕ) (P : ℕ → Type 0) (size n : ℕ) (marks : List Bool) → ¬ P n → AreMarkedBelow place P size n marks → AreMarkedBelow place P size (n + 1) marks
kept_marked place P size n marks isnt before = λ k lt. (
  λ e. still_one place P n k ((before k lt).0 e),
  λ (d, b, at, is). elim (cases_eq d n) [
    | inl last ↦ absurd (isnt (subst P last is))
    | inr other ↦ (before k lt).1 (d, omega (arith, b, other), at, is)
  ],
)

-- one that has it is marked
pub more_marked : (place : ℕ → ℕ) (P : ℕ → Type 0) (size n : ℕ) (marks : List Bool) → P n → length marks ≡ size → place n < size → AreMarkedBelow place P size n marks → AreMarkedBelow place P size (n + 1) (set marks (place n) true)
more_marked place P size n marks is len room before = λ k lt. elim (cases_eq k (place n)) [
  | inl here ↦ (
    λ _. (n, omega arith, sym here, is),
    λ _. ap (is_marked (set marks (place n) true)) here ∙ get_or-set_same marks (place n) true false (omega (arith, len, room)),
  )
  | inr other ↦
      let same : is_marked (set marks (place n) true) k ≡ is_marked marks k = get_or-set_other marks (place n) k true false other in (
        λ e. still_one place P n k ((before k lt).0 (sym same ∙ e)),
        λ (d, b, at, has). elim (cases_eq d n) [
          | inl last ↦ absurd (other (sym at ∙ ap place last))
          | inr earlier ↦ same ∙ (before k lt).1 (d, omega (arith, b, earlier), at, has)
        ],
      )
]

-- an item that is marked exactly if it has the property
pub marked_next : (place : ℕ → ℕ) (P : ℕ → Type 0) (size n at : ℕ) (marks new : List Bool) (yes : Bool) → new ≡ cond yes (set marks at true) marks → (yes ≡ true) ↔ P n → at ≡ place n → at < size → length marks ≡ size → AreMarkedBelow place P size n marks → AreMarkedBelow place P size (n + 1) new
marked_next place P size n at marks new true is same here room len before =
    let placed : new ≡ set marks (place n) true = is ∙ ap (λ (k : ℕ). set marks k true) here in
    subst (λ (m : List Bool). AreMarkedBelow place P size (n + 1) m) (sym placed) (more_marked place P size n marks (same.0 refl) len (omega (arith, room, here)) before)
marked_next place P size n at marks new false is same here room len before =
    subst (λ (m : List Bool). AreMarkedBelow place P size (n + 1) m) (sym is) (kept_marked place P size n marks (λ h. both_ways false refl (same.1 h)) before)

-- where the place of an item is its number, all items are known
pub all_marked : (P : ℕ → Type 0) (size n : ℕ) (marks : List Bool) → size ≡ n → AreMarkedBelow (λ d. d) P size n marks → (d : ℕ) → d < size → (is_marked marks d ≡ true) ↔ P d
all_marked P size n marks end known = λ d lt. (
  λ e. let (other, b, at, is) = (known d lt).0 e in subst P at is,
  λ is. (known d lt).1 (d, omega (arith, lt, end), refl, is),
)
