-- For each face a number for each cell: 1 in the face and 0 in the others, as is to be shown. It changes across an edge as the faces do.
use Rattle.std.proofs.Common.{◌≡◌, ◌≤◌, ◌<◌, ◌⊎◌, ℕ, zero, suc, ◌+◌, ◌-◌, Bool, true, false, cond, eqb, ltb, refl, sym, ap, ◌∙◌, subst, inl, inr, arith}
use Rattle.std.specs.Prelude.{ℤ, pos, negsuc, ◌+ℤ◌, ◌-ℤ◌}
use Rattle.std.specs.Ordering.{int_eq}
use Rattle.std.proofs.lemmas.Bool.Decides.{Decides-int_eq}
use Rattle.std.proofs.lemmas.Bool.{le-ltb}
use Rattle.std.proofs.lemmas.Int.{ints}
use Rattle.common.specs.Sums.{sum_below, total_below}
use Rattle.common.proofs.Sums.{total_below-same, total_below-add, total_below-pos}
use Rattle.geometry.specs.declared.direction.Direction.{Direction}
use Rattle.geometry.specs.declared.direction.Direction.TheVariants.{East, North, West, South}
use Rattle.geometry.specs.Directions.{opposite_of, left_of, left_quarters}
use Rattle.drawing_check.proofs.Totals.{total-none, total-one, total-two, total-minus, total-steps, moved_same}
use Rattle.drawing_check.proofs.Weights.{bit, only, only-add, only-minus, only-none, rise, west_of, passed, near, west_of-east, west_of-north, IsStep, step_axis, rise_up, rise_down, north_told, east_told}
use Rattle.drawing_check.proofs.Ways.{Ways, Leaves, IsFree, AreWays, same_end, turned_end, turned}

-- the sum of g over the steps of the darts of face f
abbrev pub face_sum : Ways → ℕ → (ℕ → ℕ → ℤ) → ℤ
face_sum w f g = total_below w.darts (λ d. only (eqb (w.face d) f) (total_below (w.steps d) (λ i. g d i)))

abbrev pub wests : Ways → ℕ → ℕ → ℕ → ℤ
wests w f x y = face_sum w f (λ d i. west_of (w.x d i) (w.y d i) (w.y d (i + 1)) x y)

abbrev pub norths : Ways → ℕ → ℕ → ℕ → ℤ
norths w f x y = face_sum w f (λ d i. passed (w.x d i) (w.y d i) (w.y d (i + 1)) x y)

abbrev pub easts : Ways → ℕ → ℕ → ℕ → ℤ
easts w f x y = face_sum w f (λ d i. passed (w.y d i) (w.x d i) (w.x d (i + 1)) y x)

-- the level of cell (x, y) for the face f
unfoldable pub level : Ways → ℕ → ℕ → ℕ → ℕ → ℤ
level w outer f x y = bit (eqb outer f) -ℤ wests w f x y

-- that of the cell to the left of a point's side in a direction
abbrev pub left_level : Ways → ℕ → ℕ → ℕ → ℕ → Direction → ℤ
left_level w outer f x y East = level w outer f (x + 1) (y + 1)
left_level w outer f x y North = level w outer f x (y + 1)
left_level w outer f x y West = level w outer f x y
left_level w outer f x y South = level w outer f (x + 1) y

-- ---- sums over a face

sum-same : (w : Ways) (f : ℕ) (g h : ℕ → ℕ → ℤ) → ((d i : ℕ) → d < w.darts → i < w.steps d → g d i ≡ h d i) → face_sum w f g ≡ face_sum w f h
sum-same w f g h same =
    total_below-same w.darts (λ d. only (eqb (w.face d) f) (total_below (w.steps d) (g d))) (λ d. only (eqb (w.face d) f) (total_below (w.steps d) (h d)))
    (λ d d_in. ap (only (eqb (w.face d) f)) (total_below-same (w.steps d) (g d) (h d) (λ i i_in. same d i d_in i_in)))

sum-add : (w : Ways) (f : ℕ) (g h : ℕ → ℕ → ℤ) → face_sum w f (λ d i. g d i +ℤ h d i) ≡ face_sum w f g +ℤ face_sum w f h
sum-add w f g h =
    total_below-same w.darts (λ d. only (eqb (w.face d) f) (total_below (w.steps d) (λ i. g d i +ℤ h d i)))
    (λ d. only (eqb (w.face d) f) (total_below (w.steps d) (g d)) +ℤ only (eqb (w.face d) f) (total_below (w.steps d) (h d)))
    (λ d d_in. ap (only (eqb (w.face d) f)) (total_below-add (w.steps d) (g d) (h d)) ∙ only-add (eqb (w.face d) f) (total_below (w.steps d) (g d)) (total_below (w.steps d) (h d)))
    ∙ total_below-add w.darts (λ d. only (eqb (w.face d) f) (total_below (w.steps d) (g d))) (λ d. only (eqb (w.face d) f) (total_below (w.steps d) (h d)))

sum-none : (w : Ways) (f : ℕ) (g : ℕ → ℕ → ℤ) → ((d i : ℕ) → d < w.darts → i < w.steps d → g d i ≡ pos 0) → face_sum w f g ≡ pos 0
sum-none w f g none =
    total-none w.darts (λ d. only (eqb (w.face d) f) (total_below (w.steps d) (g d)))
    (λ d d_in. ap (only (eqb (w.face d) f)) (total-none (w.steps d) (g d) (λ i i_in. none d i d_in i_in)) ∙ only-none (eqb (w.face d) f))

-- one step there and back
sum-two : (w : Ways) → AreWays w → (f : ℕ) (g : ℕ → ℕ → ℤ) (d i j : ℕ) → d < w.darts → i + j + 1 ≡ w.steps d → g d i ≡ pos 1 → g (w.reverse_dart d) j ≡ negsuc 0
    → ((e k : ℕ) → e < w.darts → k < w.steps e → (g e k ≡ pos 0) ⊎ (((e ≡ d) × (k ≡ i)) ⊎ ((e ≡ w.reverse_dart d) × (k ≡ j))))
    → face_sum w f g ≡ bit (eqb (w.face d) f) -ℤ bit (eqb (w.face (w.reverse_dart d)) f)
sum-two w are f g d i j d_in sum there back each =
    let r : ℕ = w.reverse_dart d in
    let r_in = are.back_in d d_in in
    let apart = are.back_apart d d_in in
    let size = are.back_steps d d_in in
    let total : ℕ → ℤ = λ e. only (eqb (w.face e) f) (total_below (w.steps e) (g e)) in
    let along : total_below (w.steps d) (g d) ≡ pos 1 =
    total-one (w.steps d) i (g d) (omega (arith, sum))
    (λ k k_in off. elim (each d k d_in k_in) [
      | inl none ↦ none
      | inr other ↦ elim other [ inl this ↦ absurd (off this.1) | inr that ↦ absurd (apart (sym that.0)) ]
    ]) ∙ there in
    let along_back : total_below (w.steps r) (g r) ≡ negsuc 0 =
    total-one (w.steps r) j (g r) (omega (arith, sum, size))
    (λ k k_in off. elim (each r k r_in k_in) [
      | inl none ↦ none
      | inr other ↦ elim other [ inl this ↦ absurd (apart this.0) | inr that ↦ absurd (off that.1) ]
    ]) ∙ back in
    let rest : (e : ℕ) → e < w.darts → (e ≡ d → ⊥) → (e ≡ r → ⊥) → total e ≡ pos 0 =
    λ e e_in off off'. ap (only (eqb (w.face e) f)) (total-none (w.steps e) (g e) (λ k k_in. elim (each e k e_in k_in) [
      | inl none ↦ none
      | inr other ↦ elim other [ inl this ↦ absurd (off this.0) | inr that ↦ absurd (off' that.0) ]
    ])) ∙ only-none (eqb (w.face e) f) in
    total-two w.darts d r total d_in r_in (λ e. apart (sym e)) rest
    ∙ ap (λ (z : ℤ). z +ℤ total r) (ap (only (eqb (w.face d) f)) along ∙ plus (eqb (w.face d) f))
    ∙ ap (λ (z : ℤ). bit (eqb (w.face d) f) +ℤ z) (ap (only (eqb (w.face r) f)) along_back ∙ minus (eqb (w.face r) f))
    ∙ both (bit (eqb (w.face d) f)) (bit (eqb (w.face r) f))
  where
    plus : (b : Bool) → only b (pos 1) ≡ bit b
    plus true = refl
    plus false = refl

    minus : (b : Bool) → only b (negsuc 0) ≡ pos 0 -ℤ bit b
    minus true = refl
    minus false = refl

    both : (u v : ℤ) → u +ℤ (pos 0 -ℤ v) ≡ u -ℤ v
    both u v = omega (arith, ints)

-- ---- from cell to cell

pub level-east : (w : Ways) (outer f x y : ℕ) → level w outer f (x + 1) y ≡ level w outer f x y -ℤ norths w f x y
unfolding level
level-east w outer f x y =
    let more : wests w f (x + 1) y ≡ wests w f x y +ℤ norths w f x y =
    sum-same w f (λ d i. west_of (w.x d i) (w.y d i) (w.y d (i + 1)) (x + 1) y)
    (λ d i. west_of (w.x d i) (w.y d i) (w.y d (i + 1)) x y +ℤ passed (w.x d i) (w.y d i) (w.y d (i + 1)) x y)
    (λ d i d_in i_in. west_of-east (w.x d i) (w.y d i) (w.y d (i + 1)) x y)
    ∙ sum-add w f (λ d i. west_of (w.x d i) (w.y d i) (w.y d (i + 1)) x y) (λ d i. passed (w.x d i) (w.y d i) (w.y d (i + 1)) x y) in
    less (bit (eqb outer f)) (wests w f (x + 1) y) (wests w f x y) (norths w f x y) more
  where
    less : (o a b c : ℤ) → a ≡ b +ℤ c → o -ℤ a ≡ (o -ℤ b) -ℤ c
    less o a b c e = omega (arith, ints)

-- what is left of a face's sum at the ends of its darts: nothing
closes : (w : Ways) → AreWays w → (f x y : ℕ) → face_sum w f (λ d i. near (w.x d i) (w.y d i) x y -ℤ near (w.x d (i + 1)) (w.y d (i + 1)) x y) ≡ pos 0
closes w are f x y =
    let h : ℕ → ℕ = λ d. cond (eqb (w.face d) f) (cond (eqb (w.y d 0) y) (cond (ltb (w.x d 0) x) 1 0) 0) 0 in
    let few : (d : ℕ) → h d ≤ 1 = λ d. small (eqb (w.face d) f) (eqb (w.y d 0) y) (ltb (w.x d 0) x) in
    let at : ℕ → ℕ → ℤ = λ d i. near (w.x d i) (w.y d i) x y in
    let each : (d : ℕ) → d < w.darts → only (eqb (w.face d) f) (total_below (w.steps d) (λ i. at d i -ℤ at d (i + 1))) ≡ pos (h d) -ℤ pos (h (w.next d)) =
    λ d d_in.
    ap (only (eqb (w.face d) f)) (total-steps (w.steps d) (at d))
    ∙ only-minus (eqb (w.face d) f) (at d 0) (at d (w.steps d))
    ∙ ap (λ (z : ℤ). z -ℤ only (eqb (w.face d) f) (at d (w.steps d))) (counted (eqb (w.face d) f) (eqb (w.y d 0) y) (ltb (w.x d 0) x))
    ∙ ap (λ (z : ℤ). pos (h d) -ℤ z)
    (ap (λ (k : ℕ). only (eqb k f) (at d (w.steps d))) (sym (are.stays d d_in))
    ∙ ap (λ (k : ℕ). only (eqb (w.face (w.next d)) f) (near k (w.y d (w.steps d)) x y)) (sym (are.next_x d d_in))
    ∙ ap (λ (k : ℕ). only (eqb (w.face (w.next d)) f) (near (w.x (w.next d) 0) k x y)) (sym (are.next_y d d_in))
    ∙ counted (eqb (w.face (w.next d)) f) (eqb (w.y (w.next d) 0) y) (ltb (w.x (w.next d) 0) x)) in
    total_below-same w.darts (λ d. only (eqb (w.face d) f) (total_below (w.steps d) (λ i. at d i -ℤ at d (i + 1)))) (λ d. pos (h d) -ℤ pos (h (w.next d))) each
    ∙ total-minus w.darts (λ d. pos (h d)) (λ d. pos (h (w.next d)))
    ∙ ap (λ (z : ℤ). z -ℤ total_below w.darts (λ d. pos (h (w.next d)))) (total_below-pos w.darts h)
    ∙ ap (λ (z : ℤ). pos (sum_below w.darts h) -ℤ z) (total_below-pos w.darts (λ d. h (w.next d)) ∙ ap pos (moved_same w.darts w.next h are.next_one few))
    ∙ nothing (sum_below w.darts h)
  where
    small : (p q r : Bool) → cond p (cond q (cond r 1 0) 0) 0 ≤ 1
    small true true true = omega arith
    small true true false = omega arith
    small true false r = omega arith
    small false q r = omega arith

    counted : (p q r : Bool) → only p (only q (bit r)) ≡ pos (cond p (cond q (cond r 1 0) 0) 0)
    counted true true true = refl
    counted true true false = refl
    counted true false r = refl
    counted false q r = refl

    nothing : (n : ℕ) → pos n -ℤ pos n ≡ pos 0
    nothing n = omega (arith, ints)

pub level-north : (w : Ways) → AreWays w → (outer f x y : ℕ) → level w outer f x (y + 1) ≡ level w outer f x y +ℤ easts w f x y
unfolding level
level-north w are outer f x y =
    let west : ℕ → ℕ → ℤ = λ d i. west_of (w.x d i) (w.y d i) (w.y d (i + 1)) x y in
    let west' : ℕ → ℕ → ℤ = λ d i. west_of (w.x d i) (w.y d i) (w.y d (i + 1)) x (y + 1) in
    let east : ℕ → ℕ → ℤ = λ d i. passed (w.y d i) (w.x d i) (w.x d (i + 1)) y x in
    let ends : ℕ → ℕ → ℤ = λ d i. near (w.x d i) (w.y d i) x y -ℤ near (w.x d (i + 1)) (w.y d (i + 1)) x y in
    let both : face_sum w f west' +ℤ face_sum w f east ≡ face_sum w f west +ℤ face_sum w f ends =
    sym (sum-add w f west' east)
    ∙ sum-same w f (λ d i. west' d i +ℤ east d i) (λ d i. west d i +ℤ ends d i)
    (λ d i d_in i_in. west_of-north (w.x d i) (w.y d i) (w.x d (i + 1)) (w.y d (i + 1)) x y
    (step_axis (w.way d i) (w.x d i) (w.y d i) (w.x d (i + 1)) (w.y d (i + 1)) (are.goes d i d_in i_in)))
    ∙ sum-add w f west ends in
    more (bit (eqb outer f)) (face_sum w f west') (face_sum w f east) (face_sum w f west) (face_sum w f ends) both (closes w are f x y)
  where
    more : (o a b c d : ℤ) → a +ℤ b ≡ c +ℤ d → d ≡ pos 0 → o -ℤ a ≡ (o -ℤ c) +ℤ b
    more o a b c d e none = omega (arith, ints)

pub level-west : (w : Ways) (outer f y : ℕ) → level w outer f 0 y ≡ bit (eqb outer f)
unfolding level
level-west w outer f y =
    less (bit (eqb outer f)) (wests w f 0 y) (sum-none w f (λ d i. west_of (w.x d i) (w.y d i) (w.y d (i + 1)) 0 y)
    (λ d i d_in i_in. ap (λ (b : Bool). only b (rise (w.y d i) (w.y d (i + 1)) y)) (le-ltb (w.x d i) 0 (omega arith))))
  where
    less : (o a : ℤ) → a ≡ pos 0 → o -ℤ a ≡ o
    less o a e = omega (arith, ints)

pub level-south : (w : Ways) (outer f x : ℕ) → level w outer f x 0 ≡ bit (eqb outer f)
unfolding level
level-south w outer f x =
    less (bit (eqb outer f)) (wests w f x 0) (sum-none w f (λ d i. west_of (w.x d i) (w.y d i) (w.y d (i + 1)) x 0)
    (λ d i d_in i_in.
    ap (λ (b : Bool). only (ltb (w.x d i) x) (bit b -ℤ bit (ltb (w.y d (i + 1)) 0))) (le-ltb (w.y d i) 0 (omega arith))
    ∙ ap (λ (b : Bool). only (ltb (w.x d i) x) (pos 0 -ℤ bit b)) (le-ltb (w.y d (i + 1)) 0 (omega arith))
    ∙ only-none (ltb (w.x d i) x)))
  where
    less : (o a : ℤ) → a ≡ pos 0 → o -ℤ a ≡ o
    less o a e = omega (arith, ints)

module _ (w : Ways) (are : AreWays w) (outer f : ℕ) where
  abbrev lv : ℕ → ℕ → ℤ
  lv = level w outer f

  abbrev goal_of : ℕ → ℤ
  goal_of d = bit (eqb (w.face d) f)

  same_minus : (a b c : ℤ) → a ≡ b -ℤ c → c ≡ pos 0 → b ≡ a
  same_minus a b c e none = omega (arith, ints)

  same_plus : (a b c : ℤ) → a ≡ b +ℤ c → c ≡ pos 0 → a ≡ b
  same_plus a b c e none = omega (arith, ints)

  -- ---- sides that nothing passes

  pub north_free : (x y : ℕ) → (Leaves w x y South → ⊥) → norths w f x y ≡ pos 0
  north_free x y free =
      sum-none w f (λ d i. passed (w.x d i) (w.y d i) (w.y d (i + 1)) x y)
      (λ d i d_in i_in. elim (north_told (w.way d i) (w.x d i) (w.y d i) (w.x d (i + 1)) (w.y d (i + 1)) x y (are.goes d i d_in i_in)) [
        | inl none ↦ none
        | inr other ↦ elim other [
          | inl up ↦ absurd (free (subst (λ (k : ℕ). Leaves w k y South) up.1 (subst (λ (k : ℕ). Leaves w (w.x d (i + 1)) k South) up.2 (turned w are d i North d_in i_in up.0))))
          | inr down ↦ absurd (free (record { d = d; i = i; dart_in = d_in; step_in = i_in; at_x = down.1; at_y = down.2; goes = down.0 }))
        ]
      ])

  pub east_free : (x y : ℕ) → (Leaves w x y West → ⊥) → easts w f x y ≡ pos 0
  east_free x y free =
      sum-none w f (λ d i. passed (w.y d i) (w.x d i) (w.x d (i + 1)) y x)
      (λ d i d_in i_in. elim (east_told (w.way d i) (w.x d i) (w.y d i) (w.x d (i + 1)) (w.y d (i + 1)) x y (are.goes d i d_in i_in)) [
        | inl none ↦ none
        | inr other ↦ elim other [
          | inl up ↦ absurd (free (subst (λ (k : ℕ). Leaves w k y West) up.1 (subst (λ (k : ℕ). Leaves w (w.x d (i + 1)) k West) up.2 (turned w are d i East d_in i_in up.0))))
          | inr down ↦ absurd (free (record { d = d; i = i; dart_in = d_in; step_in = i_in; at_x = down.1; at_y = down.2; goes = down.0 }))
        ]
      ])

  -- what leaves the upper end of a side down leaves the lower end up
  down_is_up : (x y : ℕ) → Leaves w x (y + 1) South → Leaves w x y North
  down_is_up x y l =
      let step : IsStep South (w.x l.d l.i) (w.y l.d l.i) (w.x l.d (l.i + 1)) (w.y l.d (l.i + 1)) =
      subst (λ (q : Direction). IsStep q (w.x l.d l.i) (w.y l.d l.i) (w.x l.d (l.i + 1)) (w.y l.d (l.i + 1))) l.goes (are.goes l.d l.i l.dart_in l.step_in) in
      let row : w.y l.d (l.i + 1) ≡ y = omega (arith, step.1, l.at_y) in
      subst (λ (k : ℕ). Leaves w k y North) (step.0 ∙ l.at_x) (subst (λ (k : ℕ). Leaves w (w.x l.d (l.i + 1)) k North) row (turned w are l.d l.i South l.dart_in l.step_in l.goes))

  west_is_east : (x y : ℕ) → Leaves w (x + 1) y West → Leaves w x y East
  west_is_east x y l =
      let step : IsStep West (w.x l.d l.i) (w.y l.d l.i) (w.x l.d (l.i + 1)) (w.y l.d (l.i + 1)) =
      subst (λ (q : Direction). IsStep q (w.x l.d l.i) (w.y l.d l.i) (w.x l.d (l.i + 1)) (w.y l.d (l.i + 1))) l.goes (are.goes l.d l.i l.dart_in l.step_in) in
      let column : w.x l.d (l.i + 1) ≡ x = omega (arith, step.0, l.at_x) in
      subst (λ (k : ℕ). Leaves w x k East) (step.1 ∙ l.at_y) (subst (λ (k : ℕ). Leaves w k (w.y l.d (l.i + 1)) East) column (turned w are l.d l.i West l.dart_in l.step_in l.goes))

  -- ---- round a point

  quarter : (q : Direction) (x y : ℕ) → (Leaves w x y (left_of q) → ⊥) → left_level w outer f x y q ≡ left_level w outer f x y (left_of q)
  quarter East x y free =
      sym (same_minus (lv (x + 1) (y + 1)) (lv x (y + 1)) (norths w f x (y + 1)) (level-east w outer f x (y + 1)) (north_free x (y + 1) (λ l. free (down_is_up x y l))))
  quarter North x y free =
      same_plus (lv x (y + 1)) (lv x y) (easts w f x y) (level-north w are outer f x y) (east_free x y free)
  quarter West x y free =
      same_minus (lv (x + 1) y) (lv x y) (norths w f x y) (level-east w outer f x y) (north_free x y free)
  quarter South x y free =
      sym (same_plus (lv (x + 1) (y + 1)) (lv (x + 1) y) (easts w f (x + 1) y) (level-north w are outer f (x + 1) y) (east_free (x + 1) y (λ l. free (west_is_east x y l))))

  quarters_free : (m : ℕ) (b : Direction) (x y : ℕ) → ((j : ℕ) → j < m → Leaves w x y (left_quarters (suc j) b) → ⊥)
      → left_level w outer f x y b ≡ left_level w outer f x y (left_quarters m b)
  quarters_free zero b x y free = refl
  quarters_free (suc m) b x y free =
      quarters_free m b x y (λ j less. free j (omega arith)) ∙ quarter (left_quarters m b) x y (free m (omega arith))

  -- the cell on the left of a step, seen from its end
  from_end : (q : Direction) (ax ay bx by : ℕ) → IsStep q ax ay bx by → left_level w outer f ax ay q ≡ left_level w outer f bx by (left_of q)
  from_end East ax ay bx by step = ap (λ (k : ℕ). lv k (ay + 1)) (sym step.0) ∙ ap (λ (k : ℕ). lv bx (k + 1)) (sym step.1)
  from_end North ax ay bx by step = ap (λ (k : ℕ). lv k (ay + 1)) (sym step.0) ∙ ap (λ (k : ℕ). lv bx k) (sym step.1)
  from_end West ax ay bx by step = ap (λ (k : ℕ). lv k ay) step.0 ∙ ap (λ (k : ℕ). lv (bx + 1) k) (sym step.1)
  from_end South ax ay bx by step = ap (λ (k : ℕ). lv (k + 1) ay) (sym step.0) ∙ ap (λ (k : ℕ). lv (bx + 1) k) step.1

  abbrev at_step : ℕ → ℕ → ℤ
  at_step d i = left_level w outer f (w.x d i) (w.y d i) (w.way d i)

  -- from a step to the one after it
  go_on : (d i : ℕ) (b : Direction) → d < w.darts → i < w.steps d → IsFree w (w.way d i) b (w.x d (i + 1)) (w.y d (i + 1))
      → at_step d i ≡ left_level w outer f (w.x d (i + 1)) (w.y d (i + 1)) b
  go_on d i b d_in i_in free =
      from_end (w.way d i) (w.x d i) (w.y d i) (w.x d (i + 1)) (w.y d (i + 1)) (are.goes d i d_in i_in)
      ∙ ap (left_level w outer f (w.x d (i + 1)) (w.y d (i + 1))) free.from
      ∙ sym (quarters_free free.quarters b (w.x d (i + 1)) (w.y d (i + 1)) free.free)

  -- along a dart
  along : (d i : ℕ) → d < w.darts → i < w.steps d → at_step d i ≡ at_step d 0
  along d zero d_in i_in = refl
  along d (suc i) d_in i_in =
      let up : i + 1 ≡ suc i = omega arith in
      ap (at_step d) (sym up) ∙ sym (go_on d i (w.way d (i + 1)) d_in (omega arith) (are.free_inside d i d_in (omega arith))) ∙ along d i d_in (omega arith)

  to_next : (d : ℕ) → d < w.darts → at_step d 0 ≡ at_step (w.next d) 0
  to_next d d_in =
      let some = are.some d d_in in
      let i : ℕ = w.steps d - 1 in
      let last : i + 1 ≡ w.steps d = omega (arith, some) in
      let i_in : i < w.steps d = omega (arith, some) in
      sym (along d i d_in i_in)
      ∙ go_on d i (w.way (w.next d) 0) d_in i_in (are.free_at d i d_in last)
      ∙ ap (λ (k : ℕ). left_level w outer f k (w.y d (i + 1)) (w.way (w.next d) 0)) (ap (w.x d) last ∙ sym (are.next_x d d_in))
      ∙ ap (λ (k : ℕ). left_level w outer f (w.x (w.next d) 0) k (w.way (w.next d) 0)) (ap (w.y d) last ∙ sym (are.next_y d d_in))

  -- ---- across an edge

  north_sum : (d i j : ℕ) → d < w.darts → i + j + 1 ≡ w.steps d → w.way d i ≡ North
      → norths w f (w.x d (i + 1)) (w.y d (i + 1)) ≡ goal_of d -ℤ goal_of (w.reverse_dart d)
  north_sum d i j d_in sum north =
      let i_in : i < w.steps d = omega (arith, sum) in
      let step : IsStep North (w.x d i) (w.y d i) (w.x d (i + 1)) (w.y d (i + 1)) =
      subst (λ (q : Direction). IsStep q (w.x d i) (w.y d i) (w.x d (i + 1)) (w.y d (i + 1))) north (are.goes d i d_in i_in) in
      let bx = are.back_x d j (i + 1) d_in (omega (arith, sum)) in
      let by = are.back_y d j (i + 1) d_in (omega (arith, sum)) in
      let by' = are.back_y d (j + 1) i d_in (omega (arith, sum)) in
      sum-two w are f (λ e k. passed (w.x e k) (w.y e k) (w.y e (k + 1)) (w.x d (i + 1)) (w.y d (i + 1))) d i j d_in sum
      (rise_up (w.x d i) (w.y d i) (w.y d (i + 1)) (w.x d (i + 1)) (w.y d (i + 1)) step.1 (sym step.0) refl)
      (rise_down (w.x (w.reverse_dart d) j) (w.y (w.reverse_dart d) j) (w.y (w.reverse_dart d) (j + 1)) (w.x d (i + 1)) (w.y d (i + 1))
      (omega (arith, by, by', step.1)) bx by)
      (λ e k e_in k_in. elim (north_told (w.way e k) (w.x e k) (w.y e k) (w.x e (k + 1)) (w.y e (k + 1)) (w.x d (i + 1)) (w.y d (i + 1)) (are.goes e k e_in k_in)) [
        | inl none ↦ inl none
        | inr other ↦ elim other [
          | inl up ↦ inr (inl (same_end w are d i e k d_in i_in e_in k_in (up.0 ∙ sym north) up.1 up.2))
          | inr down ↦ inr (inr (turned_end w are d i j e k d_in sum e_in k_in (down.0 ∙ sym (ap opposite_of north)) down.1 down.2))
        ]
      ])

  east_sum : (d i j : ℕ) → d < w.darts → i + j + 1 ≡ w.steps d → w.way d i ≡ East
      → easts w f (w.x d (i + 1)) (w.y d (i + 1)) ≡ goal_of d -ℤ goal_of (w.reverse_dart d)
  east_sum d i j d_in sum east =
      let i_in : i < w.steps d = omega (arith, sum) in
      let step : IsStep East (w.x d i) (w.y d i) (w.x d (i + 1)) (w.y d (i + 1)) =
      subst (λ (q : Direction). IsStep q (w.x d i) (w.y d i) (w.x d (i + 1)) (w.y d (i + 1))) east (are.goes d i d_in i_in) in
      let bx = are.back_x d j (i + 1) d_in (omega (arith, sum)) in
      let bx' = are.back_x d (j + 1) i d_in (omega (arith, sum)) in
      let by = are.back_y d j (i + 1) d_in (omega (arith, sum)) in
      sum-two w are f (λ e k. passed (w.y e k) (w.x e k) (w.x e (k + 1)) (w.y d (i + 1)) (w.x d (i + 1))) d i j d_in sum
      (rise_up (w.y d i) (w.x d i) (w.x d (i + 1)) (w.y d (i + 1)) (w.x d (i + 1)) step.0 (sym step.1) refl)
      (rise_down (w.y (w.reverse_dart d) j) (w.x (w.reverse_dart d) j) (w.x (w.reverse_dart d) (j + 1)) (w.y d (i + 1)) (w.x d (i + 1))
      (omega (arith, bx, bx', step.0)) by bx)
      (λ e k e_in k_in. elim (east_told (w.way e k) (w.x e k) (w.y e k) (w.x e (k + 1)) (w.y e (k + 1)) (w.x d (i + 1)) (w.y d (i + 1)) (are.goes e k e_in k_in)) [
        | inl none ↦ inl none
        | inr other ↦ elim other [
          | inl up ↦ inr (inl (same_end w are d i e k d_in i_in e_in k_in (up.0 ∙ sym east) up.1 up.2))
          | inr down ↦ inr (inr (turned_end w are d i j e k d_in sum e_in k_in (down.0 ∙ sym (ap opposite_of east)) down.1 down.2))
        ]
      ])

  -- the cell on the right of a step is on the left of the step back
  abbrev Crosses : ℕ → ℕ → ℕ → Type 0
  Crosses d i j = at_step (w.reverse_dart d) j ≡ at_step d i -ℤ (goal_of d -ℤ goal_of (w.reverse_dart d))

  seen_back : (d i j : ℕ) (q : Direction) → d < w.darts → i + j + 1 ≡ w.steps d → w.way d i ≡ q
      → at_step (w.reverse_dart d) j ≡ left_level w outer f (w.x d (i + 1)) (w.y d (i + 1)) (opposite_of q)
  seen_back d i j q d_in sum is =
      ap (λ (b : Direction). left_level w outer f (w.x (w.reverse_dart d) j) (w.y (w.reverse_dart d) j) b) (are.back_way d j i d_in (omega (arith, sum)) ∙ ap opposite_of is)
      ∙ ap (λ (k : ℕ). left_level w outer f k (w.y (w.reverse_dart d) j) (opposite_of q)) (are.back_x d j (i + 1) d_in (omega (arith, sum)))
      ∙ ap (λ (k : ℕ). left_level w outer f (w.x d (i + 1)) k (opposite_of q)) (are.back_y d j (i + 1) d_in (omega (arith, sum)))

  seen_left : (d i : ℕ) (q : Direction) → d < w.darts → i < w.steps d → w.way d i ≡ q
      → at_step d i ≡ left_level w outer f (w.x d (i + 1)) (w.y d (i + 1)) (left_of q)
  seen_left d i q d_in i_in is =
      from_end (w.way d i) (w.x d i) (w.y d i) (w.x d (i + 1)) (w.y d (i + 1)) (are.goes d i d_in i_in)
      ∙ ap (λ (b : Direction). left_level w outer f (w.x d (i + 1)) (w.y d (i + 1)) (left_of b)) is

  crosses_north : (d i j : ℕ) → d < w.darts → i + j + 1 ≡ w.steps d → w.way d i ≡ North → Crosses d i j
  crosses_north d i j d_in sum north =
      over (at_step (w.reverse_dart d) j) (at_step d i) (lv (w.x d (i + 1) + 1) (w.y d (i + 1))) (lv (w.x d (i + 1)) (w.y d (i + 1)))
      (norths w f (w.x d (i + 1)) (w.y d (i + 1))) (goal_of d -ℤ goal_of (w.reverse_dart d))
      (seen_back d i j North d_in sum north) (seen_left d i North d_in (omega (arith, sum)) north)
      (level-east w outer f (w.x d (i + 1)) (w.y d (i + 1))) (north_sum d i j d_in sum north)
    where
      over : (a b c d s t : ℤ) → a ≡ c → b ≡ d → c ≡ d -ℤ s → s ≡ t → a ≡ b -ℤ t
      over a b c d s t e1 e2 e3 e4 = e1 ∙ e3 ∙ ap (λ (z : ℤ). d -ℤ z) e4 ∙ ap (λ (z : ℤ). z -ℤ t) (sym e2)

  crosses_east : (d i j : ℕ) → d < w.darts → i + j + 1 ≡ w.steps d → w.way d i ≡ East → Crosses d i j
  crosses_east d i j d_in sum east =
      over (at_step (w.reverse_dart d) j) (at_step d i) (lv (w.x d (i + 1)) (w.y d (i + 1))) (lv (w.x d (i + 1)) (w.y d (i + 1) + 1))
      (easts w f (w.x d (i + 1)) (w.y d (i + 1))) (goal_of d -ℤ goal_of (w.reverse_dart d))
      (seen_back d i j East d_in sum east) (seen_left d i East d_in (omega (arith, sum)) east)
      (level-north w are outer f (w.x d (i + 1)) (w.y d (i + 1))) (east_sum d i j d_in sum east)
    where
      over : (a b c d s t : ℤ) → a ≡ c → b ≡ d → d ≡ c +ℤ s → s ≡ t → a ≡ b -ℤ t
      over a b c d s t e1 e2 e3 e4 = e1 ∙ less c d s e3 ∙ ap (λ (z : ℤ). d -ℤ z) e4 ∙ ap (λ (z : ℤ). z -ℤ t) (sym e2)
        where
          less : (c d s : ℤ) → d ≡ c +ℤ s → c ≡ d -ℤ s
          less c d s e = omega (arith, ints)

  -- the other way round
  crosses_back : (d i j : ℕ) → d < w.darts → i + j + 1 ≡ w.steps d → Crosses (w.reverse_dart d) j i → Crosses d i j
  crosses_back d i j d_in sum back =
      turn (at_step (w.reverse_dart (w.reverse_dart d)) i) (at_step (w.reverse_dart d) j) (at_step d i)
      (goal_of (w.reverse_dart (w.reverse_dart d))) (goal_of (w.reverse_dart d)) (goal_of d) back
      (ap (λ (e : ℕ). at_step e i) (are.back_back d d_in)) (ap goal_of (are.back_back d d_in))
    where
      turn : (a b c g h k : ℤ) → a ≡ b -ℤ (h -ℤ g) → a ≡ c → g ≡ k → b ≡ c -ℤ (k -ℤ h)
      turn a b c g h k e1 e2 e3 = omega (arith, ints)

  crosses : (d i j : ℕ) → d < w.darts → i + j + 1 ≡ w.steps d → Crosses d i j
  crosses d i j d_in sum = by_way (w.way d i) refl
    where
      by_way : (q : Direction) → w.way d i ≡ q → Crosses d i j
      by_way East is = crosses_east d i j d_in sum is
      by_way North is = crosses_north d i j d_in sum is
      by_way West is =
          crosses_back d i j d_in sum (crosses_east (w.reverse_dart d) j i (are.back_in d d_in) (omega (arith, sum, are.back_steps d d_in))
          (are.back_way d j i d_in (omega (arith, sum)) ∙ ap opposite_of is))
      by_way South is =
          crosses_back d i j d_in sum (crosses_north (w.reverse_dart d) j i (are.back_in d d_in) (omega (arith, sum, are.back_steps d d_in))
          (are.back_way d j i d_in (omega (arith, sum)) ∙ ap opposite_of is))

  -- ---- so where it is right on the left of one step, it is so on the left of all

  pub IsRight : ℕ → Type 0
  IsRight d = at_step d 0 ≡ goal_of d

  stays_right : (d : ℕ) → d < w.darts → at_step d 0 ≡ goal_of d → at_step (w.next d) 0 ≡ goal_of (w.next d)
  stays_right d d_in is = sym (to_next d d_in) ∙ is ∙ ap (λ (k : ℕ). bit (eqb k f)) (sym (are.stays d d_in))

  right_back : (d : ℕ) → d < w.darts → at_step d 0 ≡ goal_of d → at_step (w.reverse_dart d) 0 ≡ goal_of (w.reverse_dart d)
  right_back d d_in is =
      let some = are.some d d_in in
      let i : ℕ = w.steps d - 1 in
      over (at_step (w.reverse_dart d) 0) (at_step d i) (at_step d 0) (goal_of d) (goal_of (w.reverse_dart d))
      (crosses d i 0 d_in (omega (arith, some))) (along d i d_in (omega (arith, some))) is
    where
      over : (a b c g h : ℤ) → a ≡ b -ℤ (g -ℤ h) → b ≡ c → c ≡ g → a ≡ h
      over a b c g h e1 e2 e3 = omega (arith, ints)

  abbrev test : ℕ → Bool
  test d = int_eq (at_step d 0) (goal_of d)

  pub all_right : (d i : ℕ) → d < w.darts → i < w.steps d → at_step d i ≡ goal_of d → (e k : ℕ) → e < w.darts → k < w.steps e → at_step e k ≡ goal_of e
  all_right d i d_in i_in is e k e_in k_in =
      let told : (c : ℕ) → test c ≡ true → at_step c 0 ≡ goal_of c = λ c. (Decides-int_eq (at_step c 0) (goal_of c)).0 in
      let holds : (c : ℕ) → at_step c 0 ≡ goal_of c → test c ≡ true = λ c. (Decides-int_eq (at_step c 0) (goal_of c)).1 in
      along e k e_in k_in
      ∙ told e (are.connected test (λ c c_in on. holds (w.next c) (stays_right c c_in (told c on))) (λ c c_in on. holds (w.reverse_dart c) (right_back c c_in (told c on)))
      d e d_in e_in (holds d (sym (along d i d_in i_in) ∙ is)))
