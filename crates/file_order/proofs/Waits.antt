-- What waits of the files of a run, after a change at one of them.
use Rattle.std.proofs.Common.{◌≡◌, ◌≢◌, ℕ, ◌<◌, List, [], ◌∷◌, length, get_or, inl, inr, sym, subst, arith}
use Rattle.std.proofs.lemmas.Bool.{cases_eq}
use Rattle.file_order.specs.declared.chunks.Waiting.{Waiting}
use Rattle.file_order.specs.Waits.{ChangesAt}

-- one of those that wait
pub some_waiting : (xs : List Waiting) (k : ℕ) → k < length xs → Waiting
some_waiting [] k below = absurd (let none : ⊥ = omega (arith, below) in none)
some_waiting (x ∷ xs) k below = x

-- what holds of each file on which `Q` holds
pub after_change : {C : Type 0} (P : Waiting → C → Type 0) (Q : ℕ → Type 0) (file : ℕ) (before after : List Waiting) (came next : ℕ → C) (change : Waiting → Waiting → Type 0)
    → ChangesAt file change before after → ((other : ℕ) → other ≢ file → next other ≡ came other) → file < length before
    → (Q file → (w w' : Waiting) → change w w' → P w (came file) → P w' (next file))
    → ((k : ℕ) (other : Waiting) → Q k → k < length before → P (get_or before k other) (came k))
    → (k : ℕ) (other : Waiting) → Q k → k < length after → P (get_or after k other) (next k)
after_change P Q file before after came next change changed others within step all k other q below =
    elim (cases_eq k file) [
      | inl same ↦
          let here : Q file = subst Q same q in
          subst (λ j. P (get_or after j other) (next j)) (sym same)
          (step here (get_or before file other) (get_or after file other) (changed.here other) (all file other here within))
      | inr apart ↦
          let n : k < length before = omega (arith, below, changed.count) in
          subst (λ w. P w (next k)) (sym (changed.others k other apart))
          (subst (P (get_or before k other)) (sym (others k apart)) (all k other q n))
    ]
