-- The darts that are lesser than their reverses, from one dart on.
use Rattle.std.proofs.Common.{◌≡◌, ℕ, suc, ◌+◌, ◌-◌, ◌<◌, ◌≤◌, cond, List, [], ◌∷◌, filter, sym, ap, ◌∙◌, arith}
use Rattle.std.specs.List.{range_with_len}
use Rattle.std.proofs.lemmas.Bool.{lt-ltb, le-ltb, cond-true, cond-false}
use Rattle.embedding.specs.Darts.{dart_count, reverse_of}
use Rattle.embedding.specs.Lesser.{is_lesser_of, lesser_darts_from}

-- numbers from d up to n, d among them
range_more : (d n : ℕ) → d < n → range_with_len d (n - d) ≡ d ∷ range_with_len (d + 1) (n - (d + 1))
range_more d n below =
    let one : n - d ≡ suc (n - (d + 1)) = omega arith in ap (λ (k : ℕ). range_with_len d k) one

module _ (g : List (List ℕ)) (d : ℕ) where
  -- past the last dart there is none
  pub lesser_past : dart_count g ≤ d → lesser_darts_from g d ≡ []
  lesser_past past =
      let none : dart_count g - d ≡ 0 = omega arith in ap (λ (k : ℕ). filter (is_lesser_of g) (range_with_len d k)) none

  more : d < dart_count g → lesser_darts_from g d ≡ cond (is_lesser_of g d) (d ∷ lesser_darts_from g (d + 1)) (lesser_darts_from g (d + 1))
  more below = ap (filter (is_lesser_of g)) (range_more d (dart_count g) below)

  -- a lesser dart comes first
  lesser_here : d < dart_count g → d < reverse_of g d → lesser_darts_from g d ≡ d ∷ lesser_darts_from g (d + 1)
  lesser_here below lesser =
      more below ∙ cond-true (is_lesser_of g d) (d ∷ lesser_darts_from g (d + 1)) (lesser_darts_from g (d + 1)) (lt-ltb d (reverse_of g d) lesser)

  -- any other is passed by
  pub lesser_away : d < dart_count g → reverse_of g d ≤ d → lesser_darts_from g d ≡ lesser_darts_from g (d + 1)
  lesser_away below greater =
      more below ∙ cond-false (is_lesser_of g d) (d ∷ lesser_darts_from g (d + 1)) (lesser_darts_from g (d + 1)) (le-ltb d (reverse_of g d) greater)

-- what is left at a lesser dart, where none was passed by since an earlier one
pub lesser_next : (g h : List (List ℕ)) (left : List ℕ) (from d : ℕ) → lesser_darts_from g from ≡ left → lesser_darts_from g from ≡ lesser_darts_from g d → h ≡ g → d < dart_count g → d < reverse_of g d → left ≡ d ∷ lesser_darts_from h (d + 1)
lesser_next g h left from d view passed same below lesser =
    sym view ∙ passed ∙ lesser_here g d below lesser ∙ ap (λ (l : List (List ℕ)). d ∷ lesser_darts_from l (d + 1)) (sym same)
