-- The table of a plane's darts, as it is written dart by dart.
use Rattle.std.proofs.Common.{◌≡◌, ◌≢◌, ℕ, ◌+◌, ◌<◌, List, length, get_or, set, ◌∙◌, arith, sym, ap, inl, inr}
use Rattle.std.proofs.lemmas.Bool.{cases_eq}
use Rattle.std.proofs.lemmas.List.{get_or-set_same, get_or-set_other}

-- the entries below k are those of f
abbrev pub IsNonempty : List ℕ → (ℕ → ℕ) → ℕ → Type 0
IsNonempty xs f k = (d : ℕ) → d < k → get_or xs d 0 ≡ f d

pub filled_more : (xs ys : List ℕ) (f : ℕ → ℕ) (k v : ℕ) → IsNonempty xs f k → k < length xs → ys ≡ set xs k v → v ≡ f k →
    IsNonempty ys f (k + 1)
filled_more xs ys f k v filled inside ys_is v_is d l =
    let at : get_or ys d 0 ≡ get_or (set xs k v) d 0 = ap (λ (zs : List ℕ). get_or zs d 0) ys_is in
    elim (cases_eq d k) [
      | inl e ↦ at ∙ ap (λ (i : ℕ). get_or (set xs k v) i 0) e ∙ get_or-set_same xs k v 0 inside ∙ v_is ∙ ap f (sym e)
      | inr off ↦ at ∙ get_or-set_other xs k d v 0 off ∙ filled d (low d k l off)
    ]
  where
    low : (d k : ℕ) → d < k + 1 → d ≢ k → d < k
    low d k l off = omega arith

-- the entry at each place f d is d
abbrev pub IsTurned : List ℕ → (ℕ → ℕ) → ℕ → Type 0
IsTurned xs f k = (d : ℕ) → d < k → get_or xs (f d) 0 ≡ d

pub turned_more : (xs ys : List ℕ) (f : ℕ → ℕ) (n k : ℕ) → IsTurned xs f k → ((d e : ℕ) → d < n → e < n → f d ≡ f e → d ≡ e) →
    k < n → f k < length xs → ys ≡ set xs (f k) k → IsTurned ys f (k + 1)
turned_more xs ys f n k turned one k_in inside ys_is d l =
    let at : get_or ys (f d) 0 ≡ get_or (set xs (f k) k) (f d) 0 = ap (λ (zs : List ℕ). get_or zs (f d) 0) ys_is in
    elim (cases_eq d k) [
      | inl e ↦ at ∙ ap (λ (i : ℕ). get_or (set xs (f k) k) (f i) 0) e ∙ get_or-set_same xs (f k) k 0 inside ∙ sym e
      | inr off ↦ at ∙ get_or-set_other xs (f k) (f d) k 0 (λ h. off (one d k (omega (arith, l, k_in)) k_in h)) ∙ turned d (low d k l off)
    ]
  where
    low : (d k : ℕ) → d < k + 1 → d ≢ k → d < k
    low d k l off = omega arith
