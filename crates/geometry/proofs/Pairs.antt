-- A fact of each pair of a list survives a new order, where it does not tell the two apart.
use Rattle.std.proofs.Common.{◌≡◌, ℕ, ◌<◌, List, length, get_or, AllPairs, arith, ⊎_elim, refl}
use Rattle.std.specs.List.{swap}
use Rattle.std.specs.List.Sorted.{IsPermutation}
use Rattle.std.proofs.lemmas.List.Sorted.{IsPermutation-keeps}
use Rattle.std.proofs.lemmas.List.Edits.{swapped_from_swap, length-swap}
use Rattle.std.proofs.lemmas.Bool.{cases_eq, cases_lt}

-- Where an element of a list with two places exchanged stood before.
from : {X : Type 0} (xs : List X) (a b : ℕ) (d : X) → a < length xs → b < length xs → (k : ℕ) → k < length xs → (p : ℕ) × (p < length xs) × (get_or (swap xs a b) k d ≡ get_or xs p d) × (k ≡ a → p ≡ b) × (k ≡ b → p ≡ a) × ((k ≡ a → ⊥) → (k ≡ b → ⊥) → p ≡ k)
from xs a b d a_in b_in k k_in =
    let swapped = swapped_from_swap xs (swap xs a b) a b d a_in b_in refl in
    ⊎_elim
    (λ at_b. (a, a_in, rw at_b swapped.1, λ e. omega arith, λ e. refl, λ e f. absurd (f at_b)))
    (λ not_b.
    ⊎_elim
    (λ at_a. (b, b_in, rw at_a swapped.0, λ e. refl, λ e. absurd (not_b e), λ e f. absurd (e at_a)))
    (λ not_a. (k, k_in, swapped.2 k not_a not_b, λ e. absurd (not_a e), λ e. absurd (not_b e), λ e f. refl))
    (cases_eq k a))
    (cases_eq k b)

-- Two places come from two places.
apart : (i j p q a b : ℕ) → (i ≡ j → ⊥) → (i ≡ a → p ≡ b) → (i ≡ b → p ≡ a) → ((i ≡ a → ⊥) → (i ≡ b → ⊥) → p ≡ i) → (j ≡ a → q ≡ b) → (j ≡ b → q ≡ a) → ((j ≡ a → ⊥) → (j ≡ b → ⊥) → q ≡ j) → p ≡ q → ⊥
apart i j p q a b ne ia ib io ja jb jo e =
    ⊎_elim
    (λ i_a. ⊎_elim (λ j_a. omega arith) (λ j_na. ⊎_elim (λ j_b. omega arith) (λ j_nb. let k = jo j_na j_nb in omega arith) (cases_eq j b)) (cases_eq j a))
    (λ i_na. ⊎_elim
    (λ i_b. ⊎_elim (λ j_a. omega arith) (λ j_na. ⊎_elim (λ j_b. omega arith) (λ j_nb. let k = jo j_na j_nb in omega arith) (cases_eq j b)) (cases_eq j a))
    (λ i_nb. let k = io i_na i_nb in ⊎_elim (λ j_a. omega arith) (λ j_na. ⊎_elim (λ j_b. omega arith) (λ j_nb. let l = jo j_na j_nb in omega arith) (cases_eq j b)) (cases_eq j a))
    (cases_eq i b))
    (cases_eq i a)

module _ {X : Type 0} (R : X → X → Type 0) (mirror : (x y : X) → R x y → R y x) where
  -- of any two places, in either order
  both : (xs : List X) → AllPairs R xs → (i j : ℕ) (d : X) → (i ≡ j → ⊥) → i < length xs → j < length xs → R (get_or xs i d) (get_or xs j d)
  both xs h i j d ne below within =
      ⊎_elim (λ lt. h i j d lt within) (λ ge. mirror _ _ (h j i d (omega arith) below)) (cases_lt i j)

  AllPairs-swap : (xs : List X) (a b : ℕ) → a < length xs → b < length xs → AllPairs R xs → AllPairs R (swap xs a b)
  AllPairs-swap xs a b a_in b_in h = λ i j d lt within.
      let inside : j < length xs = omega (arith, length-swap xs a b) in
      let p = from xs a b d a_in b_in i (omega arith) in
      let q = from xs a b d a_in b_in j inside in
      let ne : p.0 ≡ q.0 → ⊥ = λ e. apart i j p.0 q.0 a b (omega arith) p.3 p.4 p.5 q.3 q.4 q.5 e in
      rw (p.2, q.2) (both xs h p.0 q.0 d ne p.1 q.1)

  pub AllPairs-permutation : (xs ys : List X) → IsPermutation xs ys → AllPairs R xs → AllPairs R ys
  AllPairs-permutation xs ys moved h =
      IsPermutation-keeps xs (AllPairs R) h (λ l i j i_in j_in kept. AllPairs-swap l i j i_in j_in kept) ys moved
