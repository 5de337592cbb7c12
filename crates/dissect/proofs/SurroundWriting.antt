-- The rectangle: what the code writes, and that the map stays sound.
use Rattle.std.proofs.Common.{◌≡◌, ℕ, ◌+◌, ◌%◌, ◌<◌, ◌∙◌, List, [], ◌∷◌, get_or, length, arith, subst, sym, ap, refl, inl, inr}
use Rattle.std.proofs.lemmas.Bool.{cases_eq}
use Rattle.dissect.specs.DartMaps.{no_dart}
use Rattle.dissect.specs.Surrounds.{IsSurrounded}
use Rattle.dissect.proofs.Making.{dart_map_from}

-- what holds of 0, 1, 2 and 3 holds of each number below 4
pub by_four : (P : ℕ → Type 0) → P 0 → P 1 → P 2 → P 3 → (k : ℕ) → k < 4 → P k
by_four P p0 p1 p2 p3 k l =
    elim (cases_eq k 0) [
      | inl e ↦ subst P (sym e) p0
      | inr n0 ↦ elim (cases_eq k 1) [
        | inl e ↦ subst P (sym e) p1
        | inr n1 ↦ elim (cases_eq k 2) [
          | inl e ↦ subst P (sym e) p2
          | inr n2 ↦ let e : k ≡ 3 = omega arith in subst P (sym e) p3
        ]
      ]
    ]

-- the list ys is xs with the eight items written from the place n on
pub record IsWritten (n : ℕ) (xs items ys : List ℕ) : Type 0 where
  pub before : (k : ℕ) → k < n → get_or ys k 0 ≡ get_or xs k 0
  pub here : (k : ℕ) → k < 8 → get_or ys (n + k) 0 ≡ get_or items k 0

pub written : (n : ℕ) (xs items ys : List ℕ) → length items ≡ 8 →
    ((d k : ℕ) → k < n → get_or ys k d ≡ get_or xs k d) →
    ((d k : ℕ) → k < length items → get_or ys (n + k) d ≡ get_or items k d) → IsWritten n xs items ys
written n xs items ys eight before here = record {
  before = λ k l. before 0 k l;
  here = λ k l. here 0 k (omega (arith, eight, l));
}

inner_at : (n : ℕ) (xs items ys : List ℕ) → IsWritten n xs items ys → (k : ℕ) → k < 4 → get_or ys (n + k) 0 ≡ get_or items k 0
inner_at n xs items ys w k l = w.here k (omega arith)

outer_at : (n : ℕ) (xs items ys : List ℕ) → IsWritten n xs items ys → (k : ℕ) → k < 4 → get_or ys (n + 4 + k) 0 ≡ get_or items (4 + k) 0
outer_at n xs items ys w k l =
    let e : n + 4 + k ≡ n + (4 + k) = omega arith in
    ap (λ (i : ℕ). get_or ys i 0) e ∙ w.here (4 + k) (omega arith)

abbrev angles : List ℕ
angles = 1 ∷ 1 ∷ 1 ∷ 1 ∷ 3 ∷ 3 ∷ 3 ∷ 3 ∷ []

ones : (k : ℕ) → k < 4 → get_or angles k 0 ≡ 1
ones k l = let P : ℕ → Type 0 = λ k. get_or angles k 0 ≡ 1 in by_four P refl refl refl refl k l

threes : (k : ℕ) → k < 4 → get_or angles (4 + k) 0 ≡ 3
threes k l = let P : ℕ → Type 0 = λ k. get_or angles (4 + k) 0 ≡ 3 in by_four P refl refl refl refl k l

abbrev directions : List ℕ
directions = 0 ∷ 1 ∷ 2 ∷ 3 ∷ 2 ∷ 3 ∷ 0 ∷ 1 ∷ []

ways : (k : ℕ) → k < 4 → get_or directions k 0 ≡ k
ways k l = let P : ℕ → Type 0 = λ k. get_or directions k 0 ≡ k in by_four P refl refl refl refl k l

ways_back : (k : ℕ) → k < 4 → get_or directions (4 + k) 0 ≡ (k + 2) % 4
ways_back k l = let P : ℕ → Type 0 = λ k. get_or directions (4 + k) 0 ≡ (k + 2) % 4 in by_four P refl refl refl refl k l

pub surround_made : (n v : ℕ) (N P T H D A B N2 P2 T2 H2 D2 A2 B2 : List ℕ) →
    IsWritten n N ((n + 1) ∷ (n + 2) ∷ (n + 3) ∷ n ∷ (n + 7) ∷ (n + 4) ∷ (n + 5) ∷ (n + 6) ∷ []) N2 →
    IsWritten n P ((n + 3) ∷ n ∷ (n + 1) ∷ (n + 2) ∷ (n + 5) ∷ (n + 6) ∷ (n + 7) ∷ (n + 4) ∷ []) P2 →
    IsWritten n T ((n + 4) ∷ (n + 5) ∷ (n + 6) ∷ (n + 7) ∷ n ∷ (n + 1) ∷ (n + 2) ∷ (n + 3) ∷ []) T2 →
    IsWritten n H (v ∷ (v + 1) ∷ (v + 2) ∷ (v + 3) ∷ (v + 3) ∷ v ∷ (v + 1) ∷ (v + 2) ∷ []) H2 →
    IsWritten n D (0 ∷ 1 ∷ 2 ∷ 3 ∷ 2 ∷ 3 ∷ 0 ∷ 1 ∷ []) D2 →
    IsWritten n A (1 ∷ 1 ∷ 1 ∷ 1 ∷ 3 ∷ 3 ∷ 3 ∷ 3 ∷ []) A2 →
    IsWritten n B (4294967295 ∷ 4294967295 ∷ 4294967295 ∷ 4294967295 ∷ 4294967295 ∷ 4294967295 ∷ 4294967295 ∷ 4294967295 ∷ []) B2 →
    IsSurrounded (dart_map_from n v N P T H D A B) (dart_map_from (n + 8) (v + 4) N2 P2 T2 H2 D2 A2 B2)
surround_made n v N P T H D A B N2 P2 T2 H2 D2 A2 B2 wn wp wt wh wd wa wb = record {
  darts = refl;
  vertices = refl;
  next_old = λ a l. wn.before a l;
  prev_old = λ a l. wp.before a l;
  reverse_dart_old = λ a l. wt.before a l;
  head_old = λ a l. wh.before a l;
  direction_old = λ a l. wd.before a l;
  angle_old = λ a l. wa.before a l;
  before_old = λ a l. wb.before a l;
  next_inside = λ k l. inner_at n N _ N2 wn k l ∙ by_four (λ k. get_or ((n + 1) ∷ (n + 2) ∷ (n + 3) ∷ n ∷ (n + 7) ∷ (n + 4) ∷ (n + 5) ∷ (n + 6) ∷ []) k 0 ≡ n + (k + 1) % 4) (omega arith) (omega arith) (omega arith) (omega arith) k l;
  next_outside = λ k l. outer_at n N _ N2 wn k l ∙ by_four (λ k. get_or ((n + 1) ∷ (n + 2) ∷ (n + 3) ∷ n ∷ (n + 7) ∷ (n + 4) ∷ (n + 5) ∷ (n + 6) ∷ []) (4 + k) 0 ≡ n + 4 + (k + 3) % 4) (omega arith) (omega arith) (omega arith) (omega arith) k l;
  prev_inside = λ k l. inner_at n P _ P2 wp k l ∙ by_four (λ k. get_or ((n + 3) ∷ n ∷ (n + 1) ∷ (n + 2) ∷ (n + 5) ∷ (n + 6) ∷ (n + 7) ∷ (n + 4) ∷ []) k 0 ≡ n + (k + 3) % 4) (omega arith) (omega arith) (omega arith) (omega arith) k l;
  prev_outside = λ k l. outer_at n P _ P2 wp k l ∙ by_four (λ k. get_or ((n + 3) ∷ n ∷ (n + 1) ∷ (n + 2) ∷ (n + 5) ∷ (n + 6) ∷ (n + 7) ∷ (n + 4) ∷ []) (4 + k) 0 ≡ n + 4 + (k + 1) % 4) (omega arith) (omega arith) (omega arith) (omega arith) k l;
  reverse_dart_inside = λ k l. inner_at n T _ T2 wt k l ∙ by_four (λ k. get_or ((n + 4) ∷ (n + 5) ∷ (n + 6) ∷ (n + 7) ∷ n ∷ (n + 1) ∷ (n + 2) ∷ (n + 3) ∷ []) k 0 ≡ n + 4 + k) (omega arith) (omega arith) (omega arith) (omega arith) k l;
  reverse_dart_outside = λ k l. outer_at n T _ T2 wt k l ∙ by_four (λ k. get_or ((n + 4) ∷ (n + 5) ∷ (n + 6) ∷ (n + 7) ∷ n ∷ (n + 1) ∷ (n + 2) ∷ (n + 3) ∷ []) (4 + k) 0 ≡ n + k) (omega arith) (omega arith) (omega arith) (omega arith) k l;
  head_inside = λ k l. inner_at n H _ H2 wh k l ∙ by_four (λ k. get_or (v ∷ (v + 1) ∷ (v + 2) ∷ (v + 3) ∷ (v + 3) ∷ v ∷ (v + 1) ∷ (v + 2) ∷ []) k 0 ≡ v + k) (omega arith) (omega arith) (omega arith) (omega arith) k l;
  head_outside = λ k l. outer_at n H _ H2 wh k l ∙ by_four (λ k. get_or (v ∷ (v + 1) ∷ (v + 2) ∷ (v + 3) ∷ (v + 3) ∷ v ∷ (v + 1) ∷ (v + 2) ∷ []) (4 + k) 0 ≡ v + (k + 3) % 4) (omega arith) (omega arith) (omega arith) (omega arith) k l;
  direction_inside = λ k l. inner_at n D _ D2 wd k l ∙ ways k l;
  direction_outside = λ k l. outer_at n D _ D2 wd k l ∙ ways_back k l;
  angle_inside = λ k l. inner_at n A _ A2 wa k l ∙ ones k l;
  angle_outside = λ k l. outer_at n A _ A2 wa k l ∙ threes k l;
  before_inside = λ k l. inner_at n B _ B2 wb k l ∙ by_four (λ k. get_or (no_dart ∷ no_dart ∷ no_dart ∷ no_dart ∷ no_dart ∷ no_dart ∷ no_dart ∷ no_dart ∷ []) k 0 ≡ no_dart) refl refl refl refl k l;
  before_outside = λ k l. outer_at n B _ B2 wb k l ∙ by_four (λ k. get_or (no_dart ∷ no_dart ∷ no_dart ∷ no_dart ∷ no_dart ∷ no_dart ∷ no_dart ∷ no_dart ∷ []) (4 + k) 0 ≡ no_dart) refl refl refl refl k l;
}
