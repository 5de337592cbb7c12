-- Lists that are put one after another into one list, with the places where they start.
use Rattle.std.proofs.Common.{◌≡◌, ◌≤◌, ◌<◌, ℕ, zero, suc, ◌+◌, ◌-◌, List, [], ◌∷◌, ◌++◌, length, get_or, take, drop, refl, sym, ap, ◌∙◌, subst, inl, inr, length-append, arith}
use Rattle.std.specs.Prelude.{slice_range}
use Rattle.std.proofs.lemmas.Bool.{cases_eq}
use Rattle.std.proofs.lemmas.List.{get_or_append_left, get_or_at, drop-append-le, drop_at, take-append-le, take_all, length-drop}
use Rattle.common.specs.Slices.{slices_at, AreStarts}
use Rattle.common.proofs.Pieces.{length-slices_at, get_or-slices_at}

-- n pieces stand in the list, and the next one starts at its end
pub record IsConcatenated {A : Type 0} (starts : List ℕ) (items : List A) (n : ℕ) (IsPiece : ℕ → List A → Type 0) : Type 0 where
  pub count : length starts ≡ n + 1
  pub ordered : (k : ℕ) → k < n → get_or starts k 0 ≤ get_or starts (k + 1) 0
  pub inside : (k : ℕ) → k < n + 1 → get_or starts k 0 ≤ length items
  pub end : get_or starts n 0 ≡ length items
  pub pieces : (k : ℕ) → k < n → (slice_of : List A) → IsPiece k slice_of →
      slice_range items (get_or starts k 0) (get_or starts (k + 1) 0) ≡ slice_of

-- a piece stays if more is appended
pub slice_range-append : {A : Type 0} (xs ys : List A) (a b : ℕ) → a ≤ b → b ≤ length xs → slice_range (xs ++ ys) a b ≡ slice_range xs a b
slice_range-append xs ys a b h k =
    ap (take (b - a)) (drop-append-le a xs ys (omega arith)) ∙ take-append-le (b - a) (drop a xs) ys (omega (arith, length-drop a xs))

-- and what is appended is a piece
slice_range-behind : {A : Type 0} (xs ys : List A) → slice_range (xs ++ ys) (length xs) (length (xs ++ ys)) ≡ ys
slice_range-behind xs ys =
    ap (take (length (xs ++ ys) - length xs)) (drop_at xs ys (length xs) refl) ∙ take_all (length (xs ++ ys) - length xs) ys (omega (arith, length-append xs ys))

-- no piece yet
pub concatenated-none : {A : Type 0} (IsPiece : ℕ → List A → Type 0) → IsConcatenated (0 ∷ []) [] 0 IsPiece
concatenated-none IsPiece = record {
  count = refl;
  ordered = λ k b. absurd (omega arith);
  inside = λ k b. omega (arith, nothing k);
  end = refl;
  pieces = λ k b. absurd (omega arith);
}
  where
    nothing : (k : ℕ) → let zeros : List ℕ = 0 ∷ [] in let none : ℕ = 0 in get_or zeros k none ≡ none
    nothing zero = refl
    nothing (suc k) = refl

-- the same, as a loop finds it
pub concatenated-starts : {A : Type 0} (starts : List ℕ) (items : List A) (IsPiece : ℕ → List A → Type 0) → starts ≡ 0 ∷ [] → items ≡ [] → IsConcatenated starts items 0 IsPiece
concatenated-starts starts items IsPiece s i = rw (s, i) (concatenated-none IsPiece)

-- one piece more
concatenated-more : {A : Type 0} (starts : List ℕ) (items more : List A) (n : ℕ) (IsPiece : ℕ → List A → Type 0) → IsConcatenated starts items n IsPiece →
    ((slice_of : List A) → IsPiece n slice_of → more ≡ slice_of) →
    IsConcatenated (starts ++ length (items ++ more) ∷ []) (items ++ more) (n + 1) IsPiece
concatenated-more {A} starts items more n IsPiece is this =
    let all : List A = items ++ more in
    let old : (k : ℕ) → k < n + 1 → get_or (starts ++ length all ∷ []) k 0 ≡ get_or starts k 0 = λ k b. get_or_append_left starts (length all ∷ []) 0 k (omega (arith, is.count)) in
    let new : get_or (starts ++ length all ∷ []) (n + 1) 0 ≡ length all = get_or_at starts (length all) [] 0 (n + 1) is.count in
    let longer : length all ≡ length items + length more = length-append items more in
    record {
      count = omega (arith, length-append starts (length all ∷ []), is.count);
      ordered = λ k b. elim (cases_eq k n) [
        | inl e ↦ omega (arith, ap (λ (z : ℕ). get_or (starts ++ length all ∷ []) z 0) e, ap (λ (z : ℕ). get_or (starts ++ length all ∷ []) (z + 1) 0) e, old n (omega arith), new, longer, is.end)
        | inr ne ↦ omega (arith, old k (omega arith), old (k + 1) (omega arith), is.ordered k (omega arith))
      ];
      inside = λ k b. elim (cases_eq k (n + 1)) [
        | inl e ↦ omega (arith, ap (λ (z : ℕ). get_or (starts ++ length all ∷ []) z 0) e, new)
        | inr ne ↦ omega (arith, old k (omega arith), is.inside k (omega arith), longer)
      ];
      end = new;
      pieces = λ k b slice_of is_piece. elim (cases_eq k n) [
        | inl e ↦
            ap (λ (z : ℕ). slice_range all (get_or (starts ++ length all ∷ []) z 0) (get_or (starts ++ length all ∷ []) (z + 1) 0)) e
            ∙ (ap (λ (z : ℕ). slice_range all (get_or (starts ++ length all ∷ []) n 0) z) new
            ∙ (ap (λ (z : ℕ). slice_range all z (length all)) (old n (omega arith) ∙ is.end)
            ∙ (slice_range-behind items more ∙ this slice_of (subst (λ (z : ℕ). IsPiece z slice_of) e is_piece))))
        | inr ne ↦
            ap (λ (z : ℕ). slice_range all z (get_or (starts ++ length all ∷ []) (k + 1) 0)) (old k (omega arith))
            ∙ (ap (λ (z : ℕ). slice_range all (get_or starts k 0) z) (old (k + 1) (omega arith))
            ∙ (slice_range-append items more (get_or starts k 0) (get_or starts (k + 1) 0) (is.ordered k (omega arith)) (is.inside (k + 1) (omega arith))
            ∙ is.pieces k (omega arith) slice_of is_piece))
      ];
    }

-- what is appended to a list is one piece
one_behind : {A : Type 0} (items more other : List A) → items ++ more ≡ items ++ other → more ≡ other
one_behind items more other same =
    sym (drop_at items more (length items) refl) ∙ ap (drop (length items)) same ∙ drop_at items other (length items) refl

-- one piece more, as a loop finds it
pub concatenated-pushed : {A : Type 0} (starts starts' : List ℕ) (items items' more : List A) (n m : ℕ) (IsPiece : ℕ → List A → Type 0) → IsConcatenated starts items n IsPiece →
    items' ≡ items ++ more → ((slice_of : List A) → IsPiece n slice_of → items' ≡ items ++ slice_of) → m ≡ length items' → starts' ≡ starts ++ m ∷ [] →
    IsConcatenated starts' items' (n + 1) IsPiece
concatenated-pushed starts starts' items items' more n m IsPiece is all each long longer =
    rw (longer, long, all) (concatenated-more starts items more n IsPiece is (λ slice_of h. one_behind items more slice_of (sym all ∙ each slice_of h)))

-- so the list can be cut there
pub concatenated-AreStarts : {A : Type 0} (starts : List ℕ) (items : List A) (n : ℕ) (IsPiece : ℕ → List A → Type 0) → IsConcatenated starts items n IsPiece → AreStarts starts items
concatenated-AreStarts starts items n IsPiece is = record {
  some = omega (arith, is.count);
  ordered = λ k b. is.ordered k (omega (arith, is.count));
  inside = λ k b. is.inside k (omega (arith, is.count));
}

-- into those pieces
pub concatenated-slices_at : {A : Type 0} (starts : List ℕ) (items : List A) (n : ℕ) (IsPiece : ℕ → List A → Type 0) → IsConcatenated starts items n IsPiece →
    (length (slices_at starts items) ≡ n) × ((k : ℕ) → k < n → (slice_of : List A) → IsPiece k slice_of → get_or (slices_at starts items) k [] ≡ slice_of)
concatenated-slices_at starts items n IsPiece is = (
  omega (arith, length-slices_at starts items (omega (arith, is.count)), is.count),
  λ k b slice_of h. get_or-slices_at starts items k (omega (arith, is.count)) ∙ is.pieces k b slice_of h,
)
