-- Lists of points without a repeat: each point has one place.
use Rattle.std.proofs.Common.{◌≡◌, ◌<◌, ℕ, List, [], ◌∷◌, ◌++◌, length, get_or, map, refl, sym, ap, ◌∙◌, subst, inl, inr, arith}
use Rattle.std.specs.List.{Contains, flat_map}
use Rattle.std.proofs.lemmas.Bool.{cases_lt, cases_eq}
use Rattle.ortho_rep.specs.declared.grid_points.Point.{Point}
use Rattle.ortho_rep.specs.Points.{origin}
use Rattle.drawing_check.specs.Walks.{AreDistinct}
use Rattle.drawing_check.proofs.Coverings.{no_repeat_left, no_repeat_right, no_repeat_apart}
use Rattle.drawing_check.proofs.PassingParts.{contains_cases, contains_none}
use Rattle.drawing_check.proofs.DartParts.{contains_flat}

pub flat-map_of : (f : List Point → List Point) (g : ℕ → List Point) (xs : List ℕ) → flat_map f (map g xs) ≡ flat_map (λ d. f (g d)) xs
flat-map_of f g [] = refl
flat-map_of f g (x ∷ xs) = ap (λ (l : List Point). f (g x) ++ l) (flat-map_of f g xs)

pub one_place : (l : List Point) → AreDistinct l → (i j : ℕ) → i < length l → j < length l → get_or l i origin ≡ get_or l j origin → i ≡ j
one_place l distinct i j i_in j_in same =
    elim (cases_lt i j) [
      | inl less ↦ absurd (distinct i j origin less j_in same)
      | inr more ↦ elim (cases_eq i j) [
        | inl e ↦ e
        | inr ne ↦ absurd (distinct j i origin (omega (arith, more, ne)) i_in (sym same))
      ]
    ]

pub one_list : (f : ℕ → List Point) (xs : List ℕ) → AreDistinct (flat_map f xs) → (a b : ℕ) (q : Point) → Contains xs a → Contains xs b
    → Contains (f a) q → Contains (f b) q → a ≡ b
one_list f [] distinct a b q in_a in_b here there = contains_none a in_a
one_list f (x ∷ xs) distinct a b q in_a in_b here there =
    elim (contains_cases x a xs in_a) [
      | inl is_a ↦ elim (contains_cases x b xs in_b) [
        | inl is_b ↦ sym is_a ∙ is_b
        | inr later ↦ absurd (no_repeat_apart (f x) (flat_map f xs) distinct q (subst (λ (k : ℕ). Contains (f k) q) (sym is_a) here) (contains_flat f b q xs later there))
      ]
      | inr later ↦ elim (contains_cases x b xs in_b) [
        | inl is_b ↦ absurd (no_repeat_apart (f x) (flat_map f xs) distinct q (subst (λ (k : ℕ). Contains (f k) q) (sym is_b) there) (contains_flat f a q xs later here))
        | inr later' ↦ one_list f xs (no_repeat_right (f x) (flat_map f xs) distinct) a b q later later' here there
      ]
    ]

pub each_distinct : (f : ℕ → List Point) (xs : List ℕ) → AreDistinct (flat_map f xs) → (a : ℕ) → Contains xs a → AreDistinct (f a)
each_distinct f [] distinct a in_a = contains_none a in_a
each_distinct f (x ∷ xs) distinct a in_a =
    elim (contains_cases x a xs in_a) [
      | inl is ↦ subst (λ (k : ℕ). AreDistinct (f k)) is (no_repeat_left (f x) (flat_map f xs) distinct)
      | inr later ↦ each_distinct f xs (no_repeat_right (f x) (flat_map f xs) distinct) a later
    ]
