-- Sums over the views of all passes.
use Rattle.std.proofs.Common.{◌≡◌, ◌+◌, ◌≤◌, ℕ, zero, suc, List, [], ◌∷◌, set, sum_by, refl, sym, ap, arith}
use Rattle.std.proofs.lemmas.List.Sums.{sum_by-cons}
use mathlib.Core.Option.{some, some-injective, some-ne-none}
use lib.ListN.{get_elem?}

module _ {V : Type 0} where
  -- the sum after a change of one view
  pub sum_set : (f : V → ℕ) (views : List V) (id : ℕ) (v w : V) → get_elem? views id ≡ some v → sum_by f (set views id w) + f v ≡ sum_by f views + f w
  sum_set f [] id v w e = absurd (some-ne-none v (sym e))
  sum_set f (x ∷ xs) zero v w e = let same : f x ≡ f v = ap f (some-injective x v e) in omega (arith, sum_by-cons f w xs, sum_by-cons f x xs)
  sum_set f (x ∷ xs) (suc i) v w e = let rest = sum_set f xs i v w e in omega (arith, rest, sum_by-cons f x xs, sum_by-cons f x (set xs i w))

  -- a fact of each view is one of the first and of the others
  abbrev pub EachView : (V → Type 0) → List V → Type 0
  EachView P views = (i : ℕ) (v : V) → get_elem? views i ≡ some v → P v

  pub sum_le : (f g : V → ℕ) (views : List V) → EachView (λ v. f v ≤ g v) views → sum_by f views ≤ sum_by g views
  sum_le f g [] each = omega arith
  sum_le f g (x ∷ xs) each = let here : f x ≤ g x = each zero x refl in let rest = sum_le f g xs (λ i v e. each (suc i) v e) in
      omega (arith, here, rest, sum_by-cons f x xs, sum_by-cons g x xs)

  pub share_le : (f : V → ℕ) (views : List V) (id : ℕ) (v : V) → get_elem? views id ≡ some v → f v ≤ sum_by f views
  share_le f [] id v e = absurd (some-ne-none v (sym e))
  share_le f (x ∷ xs) zero v e = let same : f x ≡ f v = ap f (some-injective x v e) in omega (arith, sum_by-cons f x xs)
  share_le f (x ∷ xs) (suc i) v e = let rest = share_le f xs i v e in omega (arith, rest, sum_by-cons f x xs)

  -- views without a share count for nothing
  none_of : (f g : V → ℕ) (views : List V) → EachView (λ v. g v ≡ 0 → f v ≡ 0) views → sum_by g views ≡ 0 → sum_by f views ≡ 0
  none_of f g [] each none = refl
  none_of f g (x ∷ xs) each none = let here : f x ≡ 0 = each zero x refl (omega (arith, sum_by-cons g x xs)) in
      let rest = none_of f g xs (λ i v e. each (suc i) v e) (omega (arith, sum_by-cons g x xs)) in omega (arith, here, rest, sum_by-cons f x xs)

  -- so one that has all shares counts alone
  pub alone : (f g : V → ℕ) (views : List V) (id : ℕ) (v : V) → get_elem? views id ≡ some v → EachView (λ u. g u ≡ 0 → f u ≡ 0) views → sum_by g views ≡ g v → sum_by f views ≡ f v
  alone f g [] id v e each whole = absurd (some-ne-none v (sym e))
  alone f g (x ∷ xs) zero v e each whole =
      let same : f x ≡ f v = ap f (some-injective x v e) in
      let same' : g x ≡ g v = ap g (some-injective x v e) in
      let rest = none_of f g xs (λ i u e'. each (suc i) u e') (omega (arith, sum_by-cons g x xs)) in omega (arith, rest, sum_by-cons f x xs)
  alone f g (x ∷ xs) (suc i) v e each whole =
      let share = share_le g xs i v e in
      let here : f x ≡ 0 = each zero x refl (omega (arith, share, sum_by-cons g x xs)) in
      let rest = alone f g xs i v e (λ j u e'. each (suc j) u e') (omega (arith, share, sum_by-cons g x xs)) in omega (arith, here, rest, sum_by-cons f x xs)
