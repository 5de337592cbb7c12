-- Flags on a grid, step by step.
use Rattle.std.proofs.Common.{◌≡◌, ◌≢◌, ℕ, zero, suc, ◌+◌, ◌-◌, ◌/◌, ◌%◌, ◌^◌, ◌<◌, ◌≤◌, ◌⊎◌, List, length, get_or, sym, ◌∙◌, ap, subst, inl, inr, ⊎_elim, arith, rules, AllPairs, EachIndex, SomeIndex, drop}
use Rattle.std.specs.Int.{bit_at}
use Rattle.std.specs.Int.Bits.{bit_and, bit_or}
use Rattle.std.proofs.Math.Nat.{pow-suc}
use Rattle.std.proofs.lemmas.Bool.{cases_lt, cases_eq}
use Rattle.std.proofs.lemmas.Nat.Bits.{bit_at_lowest, bit_at-suc, bit_at-zero, bit_at_and, bit_at_or, bit_at-lt, bit_at_mask_inside, bit_at_mask_below, bit_at_mask_above}
use Rattle.std.proofs.lemmas.List.{get_or_default, get_or-take, get_or-drop, places}
use borrow.Rule.Slice.PartMut.{put_mid, mid_of}
use Rattle.geometry.specs.declared.plane_sweep.Rectangle.{Rectangle}
use Rattle.geometry.specs.Rectangles.{Covers, IsNonempty, AreApart}
use Rattle.geometry.specs.Masks.{Flags, IsMet}
use Rattle.geometry.proofs.Frontiers.{written, below, above}
use Rattle.geometry.proofs.Holdings.{none_there, at}

-- ---- bits

small_power : (n : ℕ) → n < 2 ^ n
small_power zero = omega arith
small_power (suc n) = omega (arith, small_power n, pow-suc 2 n)

-- a number that is not 0 has a bit
some_bit_below : (w n : ℕ) → n < 2 ^ w → n ≢ 0 → (i : ℕ) × (bit_at n i ≡ 1)
some_bit_below zero n small some = absurd (some (omega (arith, small)))
some_bit_below (suc w) n small some =
    elim (cases_eq (n % 2) 1) [
      | inl odd ↦ (0, bit_at_lowest n ∙ odd)
      | inr even ↦
          let half = some_bit_below w (n / 2) (omega (arith, small, pow-suc 2 w)) (λ e. some (omega (arith, e, even))) in
          (suc half.0, bit_at-suc n half.0 ∙ half.1)
    ]

-- the columns of a rectangle
abbrev columns : Rectangle → ℕ
columns r = 2 ^ (r.right + 1) - 2 ^ r.left

in_columns : (r : Rectangle) (x : ℕ) → r.left ≤ x → x ≤ r.right → bit_at (columns r) x ≡ 1
in_columns r x from to = bit_at_mask_inside r.left (r.right + 1) x from (omega (arith, to))

only_columns : (r : Rectangle) (x : ℕ) → bit_at (columns r) x ≡ 1 → (r.left ≤ x) × (x ≤ r.right)
only_columns r x one =
    ⊎_elim
    (λ low. absurd (omega (arith, one, bit_at_mask_below r.left (r.right + 1) x low)))
    (λ from.
    ⊎_elim
    (λ high. absurd (omega (arith, one, bit_at_mask_above r.left (r.right + 1) x (omega (arith, high)))))
    (λ to. (from, to))
    (cases_lt r.right x))
    (cases_lt x r.left)

no_column : (r : Rectangle) (x : ℕ) → ((r.left ≤ x) × (x ≤ r.right) → ⊥) → bit_at (columns r) x ≡ 0
no_column r x out =
    ⊎_elim
    (λ low. bit_at_mask_below r.left (r.right + 1) x low)
    (λ from.
    ⊎_elim
    (λ high. bit_at_mask_above r.left (r.right + 1) x (omega (arith, high)))
    (λ to. absurd (out (from, to)))
    (cases_lt r.right x))
    (cases_lt x r.left)

-- ---- the rows of a rectangle

module _ (frontier : List ℕ) (r : Rectangle) (full : IsNonempty r) (low : r.top < length frontier) where
  abbrev rows : ℕ
  rows = r.top + 1 - r.bottom

  abbrev part : List ℕ
  part = mid_of r.bottom rows frontier

  long : length part ≡ rows
  long = search (rules, places)

  row_is : (y : ℕ) → r.bottom ≤ y → y ≤ r.top → get_or part (y - r.bottom) 0 ≡ get_or frontier y 0
  row_is y from to =
      let back : r.bottom + (y - r.bottom) ≡ y = omega (arith, from) in
      get_or-take rows (drop r.bottom frontier) (y - r.bottom) 0 (omega (arith, from, to, full.1)) ∙ get_or-drop r.bottom frontier (y - r.bottom) 0 ∙ ap (λ (k : ℕ). get_or frontier k 0) back

  -- a row has a bit of the columns: a point is met
  pub met_part : (mask : ℕ) → mask ≡ columns r → SomeIndex part (λ k. bit_and (get_or part k 0) mask ≢ 0) → IsMet frontier r
  met_part mask is (k, inside, some) =
      let word = get_or part k 0 in
      let both = bit_and word mask in
      let (x, one) = some_bit_below both both (small_power both) some in
      let y = r.bottom + k in
      let back : y - r.bottom ≡ k = omega arith in
      let here : get_or part k 0 ≡ get_or frontier y 0 = ap (λ (j : ℕ). get_or part j 0) (sym back) ∙ row_is y (omega arith) (omega (arith, inside, long, full.1)) in
      let split = bit_at_and word mask x in
      let in_mask : bit_at mask x ≡ 1 = omega (arith, one, split, bit_at-lt word x, bit_at-lt mask x) in
      let in_word : bit_at word x ≡ 1 = omega (arith, one, split, bit_at-lt word x, bit_at-lt mask x) in
      let column = only_columns r x (ap (λ (m : ℕ). bit_at m x) (sym is) ∙ in_mask) in
      (x, y, (column.0, column.1, omega arith, omega (arith, inside, long, full.1)), ap (λ (w : ℕ). bit_at w x) (sym here) ∙ in_word)

  -- no row has one, and each gets those of the columns
  pub flags_part : (mask : ℕ) (new : List ℕ) → mask ≡ columns r → EachIndex part (λ k. bit_and (get_or part k 0) mask ≡ 0) → length new ≡ length part
      → ((k : ℕ) → k < length part → get_or new k 0 ≡ bit_or (get_or part k 0) mask) → Flags frontier (put_mid r.bottom rows frontier new) r
  flags_part mask new is none same each =
      let inside : r.bottom + rows ≤ length frontier = omega (arith, low, full.1) in
      let many : length new ≡ rows = same ∙ long in
      let bit : (x : ℕ) → bit_at mask x ≡ bit_at (columns r) x = λ x. ap (λ (m : ℕ). bit_at m x) is in
      let after : (y : ℕ) → r.bottom ≤ y → y ≤ r.top → get_or (put_mid r.bottom rows frontier new) y 0 ≡ bit_or (get_or frontier y 0) mask = λ y from to.
      written r.bottom rows frontier new inside many y from (omega (arith, from, to, full.1))
      ∙ each (y - r.bottom) (omega (arith, from, to, long, full.1))
      ∙ ap (λ (w : ℕ). bit_or w mask) (row_is y from to) in
      record {
        free = λ x y at_point.
            let word = get_or frontier y 0 in
            let empty : bit_and word mask ≡ 0 = ap (λ (w : ℕ). bit_and w mask) (sym (row_is y at_point.2 at_point.3)) ∙ none (y - r.bottom) (omega (arith, at_point.2, at_point.3, long, full.1)) in
            omega (arith, bit_at_and word mask x, ap (λ (n : ℕ). bit_at n x) empty, bit_at-zero x, bit x, in_columns r x at_point.0 at_point.1, bit_at-lt word x);
        flagged = λ x y at_point.
            let word = get_or frontier y 0 in
            omega (arith, ap (λ (n : ℕ). bit_at n x) (after y at_point.2 at_point.3), bit_at_or word mask x, bit x, in_columns r x at_point.0 at_point.1, bit_at-lt word x);
        others = λ x y out.
            ⊎_elim
            (λ lower. ap (λ (n : ℕ). bit_at n x) (below r.bottom rows frontier new inside many y lower))
            (λ from.
            ⊎_elim
            (λ higher. ap (λ (n : ℕ). bit_at n x) (above r.bottom rows frontier new inside many y (omega (arith, higher, full.1))))
            (λ to.
            let word = get_or frontier y 0 in
            let clear = no_column r x (λ column. out (column.0, column.1, from, to)) in
            omega (arith, ap (λ (n : ℕ). bit_at n x) (after y from to), bit_at_or word mask x, bit x, clear, bit_at-lt word x))
            (cases_lt r.top y))
            (cases_lt y r.bottom);
      }

-- ---- all rectangles so far

-- The first i of the list are flagged and no other points, and they are apart.
pub record AreFlagged (table : List ℕ) (xs : List Rectangle) (i : ℕ) : Type 0 where
  pub flagged : (m x y : ℕ) → m < i → Covers (at xs m) x y → bit_at (get_or table y 0) x ≡ 1
  pub behind : (x y : ℕ) → bit_at (get_or table y 0) x ≡ 1 → (m : ℕ) × (m < i) × Covers (at xs m) x y
  pub apart : (m n : ℕ) → m < n → n < i → AreApart (at xs m) (at xs n)

covers_or_not : (r : Rectangle) (x y : ℕ) → Covers r x y ⊎ (Covers r x y → ⊥)
covers_or_not r x y =
    ⊎_elim
    (λ a. inr (λ cover. omega (arith, a, cover.0)))
    (λ left.
    ⊎_elim
    (λ b. inr (λ cover. omega (arith, b, cover.1)))
    (λ right.
    ⊎_elim
    (λ c. inr (λ cover. omega (arith, c, cover.2)))
    (λ bottom. ⊎_elim (λ d. inr (λ cover. omega (arith, d, cover.3))) (λ top. inl (left, right, bottom, top)) (cases_lt r.top y))
    (cases_lt y r.bottom))
    (cases_lt r.right x))
    (cases_lt x r.left)

pub one_more_flagged : (before after : List ℕ) (xs : List Rectangle) (i : ℕ) → AreFlagged before xs i → Flags before after (at xs i) → AreFlagged after xs (i + 1)
one_more_flagged before after xs i so_far flags = record {
  flagged = λ m x y lt cover.
      ⊎_elim
      (λ here. flags.flagged x y here)
      (λ away.
      ⊎_elim
      (λ same. absurd (away (subst (λ (k : ℕ). Covers (at xs k) x y) same cover)))
      (λ ne. flags.others x y away ∙ so_far.flagged m x y (omega (arith, lt, ne)) cover)
      (cases_eq m i))
      (covers_or_not (at xs i) x y);
  behind = λ x y one.
      ⊎_elim
      (λ here. (i, omega arith, here))
      (λ away. let earlier = so_far.behind x y (sym (flags.others x y away) ∙ one) in (earlier.0, omega (arith, earlier.1), earlier.2))
      (covers_or_not (at xs i) x y);
  apart = λ m n lt below.
      ⊎_elim
      (λ same. subst (λ (k : ℕ). AreApart (at xs m) (at xs k)) (sym same)
      (λ x y cover here. omega (arith, so_far.flagged m x y (omega (arith, lt, same)) cover, flags.free x y here)))
      (λ ne. so_far.apart m n lt (omega (arith, below, ne)))
      (cases_eq n i);
}

-- where the next one is met, it has a point in common with one before it
pub met_not_apart : (table : List ℕ) (xs : List Rectangle) (i : ℕ) → AreFlagged table xs i → i < length xs → IsMet table (at xs i) → AllPairs AreApart xs → ⊥
met_not_apart table xs i so_far within (x, y, cover, one) apart =
    let earlier = so_far.behind x y one in
    apart earlier.0 i none_there earlier.1 within x y earlier.2 cover

pub all_flagged : (table : List ℕ) (xs : List Rectangle) (i : ℕ) → AreFlagged table xs i → length xs ≤ i → AllPairs AreApart xs
all_flagged table xs i so_far all = λ m n d lt within.
    rw (get_or_default xs m d none_there (omega (arith, lt, within)), get_or_default xs n d none_there within) (so_far.apart m n lt (omega (arith, within, all)))
