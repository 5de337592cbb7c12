-- Marks that are pushed one after another.
use Rattle.std.proofs.Common.{◌≡◌, ◌∙◌, ℕ, zero, suc, ◌+◌, ◌<◌, Bool, true, false, List, [], ◌∷◌, ◌++◌, length, ap, arith, inl, inr, subst, sym}
use Rattle.std.proofs.lemmas.Bool.{cases_eq, cases_lt, both_ways}
use Rattle.std.proofs.lemmas.List.{get_or_past}
use Rattle.flow_network.specs.Marks.{is_marked}
use Rattle.flow_network.proofs.GrowingLists.{push_keeps}

last_mark : (xs : List Bool) (x : Bool) (k : ℕ) → k ≡ length xs → is_marked (xs ++ x ∷ []) k ≡ x
last_mark [] x k at = ap (is_marked (x ∷ [])) at
last_mark (y ∷ ys) x zero at = absurd (omega arith)
last_mark (y ∷ ys) x (suc k) at = last_mark ys x k (omega arith)

-- what holds of each mark and its place holds of one mark more
pub marks_more : (xs ys : List Bool) (x : Bool) (n : ℕ) (P : Bool → ℕ → Type 0) → ys ≡ xs ++ x ∷ [] → length xs ≡ n → P x n → ((k : ℕ) → k < n → P (is_marked xs k) k) → (k : ℕ) → k < n + 1 → P (is_marked ys k) k
marks_more xs ys x n P said long here before k l =
    elim (cases_eq k n) [
      | inl same ↦
          let at : is_marked ys k ≡ x = ap (λ (zs : List Bool). is_marked zs k) said ∙ last_mark xs x k (omega (arith, long, same)) in
          subst (λ (b : Bool). P b k) (sym at) (subst (λ (j : ℕ). P x j) (sym same) here)
      | inr other ↦
          let less : k < n = omega (arith, l, other) in
          subst (λ (b : Bool). P b k) (sym (push_keeps xs ys x false k said (omega (arith, long, less)))) (before k less)
    ]

-- a mark that is set lies in the list
pub marks_below : (xs : List Bool) (n k : ℕ) → length xs ≡ n → is_marked xs k ≡ true → k < n
marks_below xs n k long on = elim (cases_lt k n) [
  | inl less ↦ less
  | inr past ↦ absurd (both_ways (is_marked xs k) (get_or_past xs k false (omega (arith, long, past))) on)
]
