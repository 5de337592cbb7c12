-- From what holds of the list at each place to what holds of the list of each vertex.
use Rattle.std.proofs.Common.{◌≡◌, ◌↔◌, true, false, ℕ, zero, suc, ◌+◌, ◌<◌, ◌≤◌, List, [], length, get_or, replicate, refl, sym, ap, subst, inl, inr, arith}
use Rattle.std.proofs.lemmas.List.{get_or_past}
use Rattle.std.specs.Bool.{IsTrue}
use Rattle.std.proofs.lemmas.Bool.{cases_lt, false≢true}
use Rattle.embedding.specs.Lists.{list_of}

pub each_list : (g : List (List ℕ)) (P : ℕ → List ℕ → Type 0) → ((u : ℕ) → P u []) → ((k : ℕ) → k < length g → P (suc k) (get_or g k [])) → (u : ℕ) → P u (list_of g u)
each_list g P none here zero = none zero
each_list g P none here (suc k) =
    elim (cases_lt k (length g)) [
      | inl below ↦ here k below
      | inr past ↦ subst (λ (l : List ℕ). P (suc k) l) (sym (get_or_past g k [] past)) (none (suc k))
    ]

pub list_of-add : (g : List (List ℕ)) (k : ℕ) → list_of g (k + 1) ≡ get_or g k []
list_of-add g k = let one : k + 1 ≡ suc k = omega arith in ap (list_of g) one

-- ---- answers of tests

pub yes_is : {P : Type 0} → P → (IsTrue true ↔ P)
yes_is holds = (λ _. holds, λ _. refl)

pub no_is : {P : Type 0} → (P → ⊥) → (IsTrue false ↔ P)
no_is fails = (λ e. absurd (false≢true e), λ holds. absurd (fails holds))

-- what holds of the list at a place holds of some vertex's list
pub found_at : (g : List (List ℕ)) (P : ℕ → List ℕ → Type 0) (k : ℕ) → P (k + 1) (get_or g k []) → (u : ℕ) × P u (list_of g u)
found_at g P k holds = (k + 1, subst (λ (l : List ℕ). P (k + 1) l) (sym (list_of-add g k)) holds)

-- and what holds at no place holds of no vertex's list
pub none_below : (g : List (List ℕ)) (P : ℕ → List ℕ → Type 0) (n : ℕ) → length g ≤ n → ((u : ℕ) → P u [] → ⊥) → ((k : ℕ) → k < n → P (k + 1) (get_or g k []) → ⊥) → ((u : ℕ) × P u (list_of g u)) → ⊥
none_below g P n long none here (u, holds) =
    each_list g (λ u l. P u l → ⊥) none (λ k below h. here k (omega arith) (subst (λ (v : ℕ). P v (get_or g k [])) (omega arith) h)) u holds

-- flags that are 0 everywhere
pub blank_le : (n v : ℕ) → get_or (replicate n 0) v 0 ≤ 0
blank_le zero v = omega arith
blank_le (suc n) zero = omega arith
blank_le (suc n) (suc v) = blank_le n v
