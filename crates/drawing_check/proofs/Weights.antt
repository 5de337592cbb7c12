-- What one step along an axis adds to the sums that tell the faces of cells.
use Rattle.std.proofs.Common.{◌≡◌, ◌⊎◌, ℕ, ◌+◌, Bool, true, false, eqb, ltb, refl, sym, ◌∙◌, subst, inl, inr, arith}
use Rattle.std.specs.Prelude.{ℤ, pos, negsuc, ◌+ℤ◌, ◌-ℤ◌}
use Rattle.std.proofs.lemmas.Bool.{cases_eq, cases_lt, eq-eqb, ne_eqb, lt-ltb, le-ltb}
use Rattle.std.proofs.lemmas.Int.{ints}
use Rattle.geometry.specs.declared.direction.Direction.{Direction}
use Rattle.geometry.specs.declared.direction.Direction.TheVariants.{East, North, West, South}
use Rattle.geometry.specs.Directions.{opposite_of}

abbrev pub bit : Bool → ℤ
bit true = pos 1
bit false = pos 0

abbrev pub only : Bool → ℤ → ℤ
only true z = z
only false z = pos 0

pub only-add : (b : Bool) (u v : ℤ) → only b (u +ℤ v) ≡ only b u +ℤ only b v
only-add true u v = refl
only-add false u v = refl

pub only-minus : (b : Bool) (u v : ℤ) → only b (u -ℤ v) ≡ only b u -ℤ only b v
only-minus true u v = refl
only-minus false u v = refl

pub only-none : (b : Bool) → only b (pos 0) ≡ pos 0
only-none true = refl
only-none false = refl

pub bit-more : (s y : ℕ) → bit (ltb s (y + 1)) ≡ bit (ltb s y) +ℤ bit (eqb s y)
bit-more s y =
    elim (cases_lt s y) [
      | inl less ↦ rw (lt-ltb s y less, ne_eqb s y (λ e. omega (arith, less)), lt-ltb s (y + 1) (omega (arith, less))) refl
      | inr more ↦ elim (cases_eq s y) [
        | inl same ↦ rw (le-ltb s y more, eq-eqb s y same, lt-ltb s (y + 1) (omega (arith, same))) refl
        | inr off ↦ rw (le-ltb s y more, ne_eqb s y off, le-ltb s (y + 1) (omega (arith, more, off))) refl
      ]
    ]

pub only-more : (s x : ℕ) (z : ℤ) → only (ltb s (x + 1)) z ≡ only (ltb s x) z +ℤ only (eqb s x) z
only-more s x z =
    elim (cases_lt s x) [
      | inl less ↦ rw (lt-ltb s x less, ne_eqb s x (λ e. omega (arith, less)), lt-ltb s (x + 1) (omega (arith, less))) (omega (arith, ints))
      | inr more ↦ elim (cases_eq s x) [
        | inl same ↦ rw (le-ltb s x more, eq-eqb s x same, lt-ltb s (x + 1) (omega (arith, same))) (omega (arith, ints))
        | inr off ↦ rw (le-ltb s x more, ne_eqb s x off, le-ltb s (x + 1) (omega (arith, more, off))) refl
      ]
    ]

-- whether a step from s to t passes from below y to y or further: 1, or -1 on the way back
abbrev pub rise : ℕ → ℕ → ℕ → ℤ
rise s t y = bit (ltb s y) -ℤ bit (ltb t y)

-- the same where the step is west of x: it is upright, or adds nothing
abbrev pub west_of : ℕ → ℕ → ℕ → ℕ → ℕ → ℤ
west_of ax ay by x y = only (ltb ax x) (rise ay by y)

-- the same of a step on the line k
abbrev pub passed : ℕ → ℕ → ℕ → ℕ → ℕ → ℤ
passed l s t k c = only (eqb l k) (rise s t c)

-- whether a point is in row y, west of x
abbrev pub near : ℕ → ℕ → ℕ → ℕ → ℤ
near px py x y = only (eqb py y) (bit (ltb px x))

pub west_of-east : (ax ay by x y : ℕ) → west_of ax ay by (x + 1) y ≡ west_of ax ay by x y +ℤ passed ax ay by x y
west_of-east ax ay by x y = only-more ax x (rise ay by y)

upright_case : (p q r : Bool) (u v u' v' : ℤ) → u' ≡ u +ℤ bit q → v' ≡ v +ℤ bit r
    → only p (u' -ℤ v') +ℤ only q (bit p -ℤ bit p) ≡ only p (u -ℤ v) +ℤ (only q (bit p) -ℤ only r (bit p))
upright_case true true true u v u' v' e e' = omega (arith, ints)
upright_case true true false u v u' v' e e' = omega (arith, ints)
upright_case true false true u v u' v' e e' = omega (arith, ints)
upright_case true false false u v u' v' e e' = omega (arith, ints)
upright_case false true true u v u' v' e e' = refl
upright_case false true false u v u' v' e e' = refl
upright_case false false true u v u' v' e e' = refl
upright_case false false false u v u' v' e e' = refl

level_case : (p q r : Bool) (u u' : ℤ)
    → only p (u' -ℤ u') +ℤ only q (bit p -ℤ bit r) ≡ only p (u -ℤ u) +ℤ (only q (bit p) -ℤ only q (bit r))
level_case true true true u u' = omega (arith, ints)
level_case true true false u u' = omega (arith, ints)
level_case true false true u u' = omega (arith, ints)
level_case true false false u u' = omega (arith, ints)
level_case false true true u u' = refl
level_case false true false u u' = refl
level_case false false true u u' = refl
level_case false false false u u' = refl

pub west_of-north : (ax ay bx by x y : ℕ) → (ax ≡ bx) ⊎ (ay ≡ by)
    → west_of ax ay by x (y + 1) +ℤ passed ay ax bx y x ≡ west_of ax ay by x y +ℤ (near ax ay x y -ℤ near bx by x y)
west_of-north ax ay bx by x y (inl e) =
    subst (λ (k : ℕ). west_of ax ay by x (y + 1) +ℤ passed ay ax k y x ≡ west_of ax ay by x y +ℤ (near ax ay x y -ℤ near k by x y)) e
    (upright_case (ltb ax x) (eqb ay y) (eqb by y) (bit (ltb ay y)) (bit (ltb by y)) (bit (ltb ay (y + 1))) (bit (ltb by (y + 1))) (bit-more ay y) (bit-more by y))
west_of-north ax ay bx by x y (inr e) =
    subst (λ (k : ℕ). west_of ax ay k x (y + 1) +ℤ passed ay ax bx y x ≡ west_of ax ay k x y +ℤ (near ax ay x y -ℤ near bx k x y)) e
    (level_case (ltb ax x) (eqb ay y) (ltb bx x) (bit (ltb ay y)) (bit (ltb ay (y + 1))))

-- ---- one step

-- from one point to the next one in a direction
abbrev pub IsStep : Direction → ℕ → ℕ → ℕ → ℕ → Type 0
IsStep East ax ay bx by = (bx ≡ ax + 1) × (by ≡ ay)
IsStep North ax ay bx by = (bx ≡ ax) × (by ≡ ay + 1)
IsStep West ax ay bx by = (ax ≡ bx + 1) × (by ≡ ay)
IsStep South ax ay bx by = (bx ≡ ax) × (ay ≡ by + 1)

pub step_axis : (q : Direction) (ax ay bx by : ℕ) → IsStep q ax ay bx by → (ax ≡ bx) ⊎ (ay ≡ by)
step_axis East ax ay bx by step = inr (sym step.1)
step_axis North ax ay bx by step = inl (sym step.0)
step_axis West ax ay bx by step = inr (sym step.1)
step_axis South ax ay bx by step = inl (sym step.0)

-- where it starts is told by where it ends
pub step_start : (q : Direction) (ax ay bx by cx cy dx dy : ℕ) → IsStep q ax ay bx by → IsStep q cx cy dx dy → bx ≡ dx → by ≡ dy → (ax ≡ cx) × (ay ≡ cy)
step_start East ax ay bx by cx cy dx dy one two ex ey = (omega (arith, one, two, ex), omega (arith, one, two, ey))
step_start North ax ay bx by cx cy dx dy one two ex ey = (omega (arith, one, two, ex), omega (arith, one, two, ey))
step_start West ax ay bx by cx cy dx dy one two ex ey = (omega (arith, one, two, ex), omega (arith, one, two, ey))
step_start South ax ay bx by cx cy dx dy one two ex ey = (omega (arith, one, two, ex), omega (arith, one, two, ey))

pub step_back : (q : Direction) (ax ay bx by : ℕ) → IsStep q ax ay bx by → IsStep (opposite_of q) bx by ax ay
step_back East ax ay bx by step = (step.0, sym step.1)
step_back North ax ay bx by step = (sym step.0, step.1)
step_back West ax ay bx by step = (step.0, sym step.1)
step_back South ax ay bx by step = (sym step.0, step.1)

-- what it passes
no_rise : (l s t k c : ℕ) → t ≡ s → passed l s t k c ≡ pos 0
no_rise l s t k c e = subst (λ (u : ℕ). only (eqb l k) (bit (ltb s c) -ℤ bit (ltb u c)) ≡ pos 0) (sym e) (level (eqb l k) (ltb s c))
  where
    level : (p q : Bool) → only p (bit q -ℤ bit q) ≡ pos 0
    level true true = refl
    level true false = refl
    level false true = refl
    level false false = refl

pub rise_up : (l s t k c : ℕ) → t ≡ s + 1 → l ≡ k → t ≡ c → passed l s t k c ≡ pos 1
rise_up l s t k c up line end = rw (eq-eqb l k line, lt-ltb s c (omega (arith, up, end)), le-ltb t c (omega (arith, end))) refl

pub rise_down : (l s t k c : ℕ) → s ≡ t + 1 → l ≡ k → s ≡ c → passed l s t k c ≡ negsuc 0
rise_down l s t k c down line end = rw (eq-eqb l k line, le-ltb s c (omega (arith, end)), lt-ltb t c (omega (arith, down, end))) refl

up_told : (l s t k c : ℕ) → t ≡ s + 1 → (passed l s t k c ≡ pos 0) ⊎ ((l ≡ k) × (t ≡ c))
up_told l s t k c up =
    elim (cases_eq l k) [
      | inr off ↦ inl (rw (ne_eqb l k off) refl)
      | inl line ↦ elim (cases_eq t c) [
        | inl end ↦ inr (line, end)
        | inr other ↦ elim (cases_lt t c) [
          | inl less ↦ inl (rw (eq-eqb l k line, lt-ltb s c (omega (arith, up, less)), lt-ltb t c less) refl)
          | inr more ↦ inl (rw (eq-eqb l k line, le-ltb s c (omega (arith, up, more, other)), le-ltb t c more) refl)
        ]
      ]
    ]

down_told : (l s t k c : ℕ) → s ≡ t + 1 → (passed l s t k c ≡ pos 0) ⊎ ((l ≡ k) × (s ≡ c))
down_told l s t k c down =
    elim (cases_eq l k) [
      | inr off ↦ inl (rw (ne_eqb l k off) refl)
      | inl line ↦ elim (cases_eq s c) [
        | inl end ↦ inr (line, end)
        | inr other ↦ elim (cases_lt s c) [
          | inl less ↦ inl (rw (eq-eqb l k line, lt-ltb s c less, lt-ltb t c (omega (arith, down, less))) refl)
          | inr more ↦ inl (rw (eq-eqb l k line, le-ltb s c more, le-ltb t c (omega (arith, down, more, other))) refl)
        ]
      ]
    ]

-- a step passes the side that ends at (x, y) northward, or southward, or not
pub north_told : (q : Direction) (ax ay bx by x y : ℕ) → IsStep q ax ay bx by
    → (passed ax ay by x y ≡ pos 0) ⊎ (((q ≡ North) × (bx ≡ x) × (by ≡ y)) ⊎ ((q ≡ South) × (ax ≡ x) × (ay ≡ y)))
north_told East ax ay bx by x y step = inl (no_rise ax ay by x y step.1)
north_told West ax ay bx by x y step = inl (no_rise ax ay by x y step.1)
north_told North ax ay bx by x y step =
    elim (up_told ax ay by x y step.1) [ inl none ↦ inl none | inr here ↦ inr (inl (refl, step.0 ∙ here.0, here.1)) ]
north_told South ax ay bx by x y step =
    elim (down_told ax ay by x y step.1) [ inl none ↦ inl none | inr here ↦ inr (inr (refl, here.0, here.1)) ]

-- or eastward, or westward, or not
pub east_told : (q : Direction) (ax ay bx by x y : ℕ) → IsStep q ax ay bx by
    → (passed ay ax bx y x ≡ pos 0) ⊎ (((q ≡ East) × (bx ≡ x) × (by ≡ y)) ⊎ ((q ≡ West) × (ax ≡ x) × (ay ≡ y)))
east_told North ax ay bx by x y step = inl (no_rise ay ax bx y x step.0)
east_told South ax ay bx by x y step = inl (no_rise ay ax bx y x step.0)
east_told East ax ay bx by x y step =
    elim (up_told ay ax bx y x step.0) [ inl none ↦ inl none | inr here ↦ inr (inl (refl, here.1, step.1 ∙ here.0)) ]
east_told West ax ay bx by x y step =
    elim (down_told ay ax bx y x step.0) [ inl none ↦ inl none | inr here ↦ inr (inr (refl, here.1, here.0)) ]
