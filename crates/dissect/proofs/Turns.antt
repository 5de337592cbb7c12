-- How far a walk round a face turns: the sum over its darts is the sum over the darts with its number.
use Rattle.std.proofs.Common.{◌≡◌, ◌≢◌, ℕ, zero, suc, ◌+◌, ◌*◌, ◌<◌, ◌≤◌, ◌∙◌, List, [], ◌∷◌, Bool, true, false, cond, eqb, ◌||◌, length, map, arith, subst, sym, ap, refl, inl, inr}
use Rattle.std.specs.List.{list_any}
use Rattle.std.proofs.lemmas.Bool.{cases_eq, cases_Bool, eq-eqb, ne_eqb}
use Rattle.common.specs.Sums.{sum_below}
use Rattle.common.proofs.Sums.{sum_below-same, sum_below-none, sum_below-add, sum_below-one}
use Rattle.dissect.specs.DartMaps.{DartMap, IsTied}
use Rattle.dissect.specs.Faces.{Stretches, Trail, In, Distinct, Below, TurnsOnce, ReachesCorners}
use Rattle.dissect.specs.Turning.{total}
use Rattle.dissect.specs.FaceNumbers.{AreFaceNumbers, darts_around_face, angles_around_face, HasTurns}
use Rattle.dissect.specs.Walks.{steps, darts_walked, turning, HasPeriod}
use Rattle.dissect.proofs.Orbits.{steps_more, path_member, path_holds, path_below, path_trail, any_in, in_any, orbit_of, orbit_distinct, turning_total}

pub face_number_along : (w : DartMap) (face_number : ℕ → ℕ) → IsTied w → AreFaceNumbers w face_number → (k a : ℕ) → a < w.darts → face_number (steps w k a) ≡ face_number a
face_number_along w face_number tied face_numbers zero a l = refl
face_number_along w face_number tied face_numbers (suc k) a l = face_number_along w face_number tied face_numbers k (w.next a) (tied.next_in a l) ∙ face_numbers.stays a l

-- the walk passes each dart with its number
pub orbit_holds : (w : DartMap) (face_number : ℕ → ℕ) (a p x : ℕ) → IsTied w → AreFaceNumbers w face_number → a < w.darts → HasPeriod w a p →
    x < w.darts → face_number x ≡ face_number a → In x (darts_walked w a p)
orbit_holds w face_number a p x tied face_numbers l period x_in same =
    let s : ℕ → Bool = λ y. list_any (eqb y) (darts_walked w a p) in
    let closed : (y : ℕ) → y < w.darts → s y ≡ true → s (w.next y) ≡ true = λ y l h.
    let m = path_member w y a p (any_in y (darts_walked w a p) h) in
    in_any (w.next y) (darts_walked w a p) (elim (cases_eq m.0 p) [
      | inl e ↦
          let here : w.next y ≡ steps w 1 a = ap w.next (sym m.3 ∙ ap (λ (k : ℕ). steps w k a) e ∙ period.back) in
          subst (λ (z : ℕ). In z (darts_walked w a p)) (sym here) (path_holds w a p 1 (omega arith) period.some)
      | inr less ↦
          let here : w.next y ≡ steps w (suc m.0) a = ap w.next (sym m.3) ∙ sym (steps_more w m.0 a) in
          subst (λ (z : ℕ). In z (darts_walked w a p)) (sym here) (path_holds w a p (suc m.0) (omega arith) (omega (arith, m.2, less)))
    ]) in
    let begins : s a ≡ true = in_any a (darts_walked w a p)
    (subst (λ (z : ℕ). In z (darts_walked w a p)) period.back (path_holds w a p p period.some (omega arith))) in
    any_in x (darts_walked w a p) (face_numbers.least s closed a x l x_in (sym same) begins)

-- the sum over the darts of a list
pub listed_sum : (n : ℕ) (f : ℕ → ℕ) (xs : List ℕ) → Distinct xs → Below n xs →
    sum_below n (λ x. cond (list_any (eqb x) xs) (f x) 0) ≡ total (map f xs)
listed_sum n f [] distinct below = sum_below-none n (λ x. cond (list_any (eqb x) []) (f x) 0) (λ x l. refl)
listed_sum n f (y ∷ ys) distinct below =
    let one : ℕ → ℕ = λ x. cond (eqb y x) (f x) 0 in
    let more : ℕ → ℕ = λ x. cond (list_any (eqb x) ys) (f x) 0 in
    let each : sum_below n (λ x. cond (list_any (eqb x) (y ∷ ys)) (f x) 0) ≡ sum_below n (λ x. one x + more x) =
    sum_below-same n (λ x. cond (list_any (eqb x) (y ∷ ys)) (f x) 0) (λ x. one x + more x) (λ x l. subdivide f x y ys distinct.0) in
    omega (arith, each, sum_below-add n one more, sum_below-one n y f below.0, listed_sum n f ys distinct.1 below.1)
  where
    at_first : (f : ℕ → ℕ) (x : ℕ) (b c d : Bool) → b ≡ true → c ≡ true → d ≡ false →
        cond (b || d) (f x) 0 ≡ cond c (f x) 0 + cond d (f x) 0
    at_first f x b c d hb hc hd = rw (hb, hc, hd) (omega arith)

    at_later : (f : ℕ → ℕ) (x : ℕ) (b c d : Bool) → b ≡ false → c ≡ false →
        cond (b || d) (f x) 0 ≡ cond c (f x) 0 + cond d (f x) 0
    at_later f x b c d hb hc = rw (hb, hc) (omega arith)

    subdivide : (f : ℕ → ℕ) (x y : ℕ) (ys : List ℕ) → (In y ys → ⊥) →
        cond (list_any (eqb x) (y ∷ ys)) (f x) 0 ≡ cond (eqb y x) (f x) 0 + cond (list_any (eqb x) ys) (f x) 0
    subdivide f x y ys out =
        elim (cases_eq x y) [
          | inl e ↦
              let none : list_any (eqb x) ys ≡ false = elim (cases_Bool (list_any (eqb x) ys)) [
                | inl there ↦ absurd (out (subst (λ (z : ℕ). In z ys) e (any_in x ys there)))
                | inr none ↦ none
              ] in
              at_first f x (eqb x y) (eqb y x) (list_any (eqb x) ys) (eq-eqb x y e) (eq-eqb y x (sym e)) none
          | inr ne ↦ at_later f x (eqb x y) (eqb y x) (list_any (eqb x) ys) (ne_eqb x y ne) (ne_eqb y x (λ h. ne (sym h)))
        ]

-- the same sum, over the darts with the number
pub numbered_sum : (w : DartMap) (face_number : ℕ → ℕ) (a p : ℕ) (f : ℕ → ℕ) → IsTied w → AreFaceNumbers w face_number → a < w.darts → HasPeriod w a p →
    sum_below w.darts (λ x. cond (eqb (face_number x) (face_number a)) (f x) 0) ≡ total (map f (darts_walked w a p))
numbered_sum w face_number a p f tied face_numbers l period =
    sum_below-same w.darts (λ x. cond (eqb (face_number x) (face_number a)) (f x) 0) (λ x. cond (list_any (eqb x) (darts_walked w a p)) (f x) 0)
    (λ x x_in. ap (λ (b : Bool). cond b (f x) 0) (same x x_in))
    ∙ listed_sum w.darts f (darts_walked w a p) (orbit_distinct w a p tied l period) (path_below w tied a p l)
  where
    same : (x : ℕ) → x < w.darts → eqb (face_number x) (face_number a) ≡ list_any (eqb x) (darts_walked w a p)
    same x x_in =
        elim (cases_eq (face_number x) (face_number a)) [
          | inl e ↦ eq-eqb (face_number x) (face_number a) e ∙ sym (in_any x (darts_walked w a p) (orbit_holds w face_number a p x tied face_numbers l period x_in e))
          | inr ne ↦ elim (cases_Bool (list_any (eqb x) (darts_walked w a p))) [
            | inl there ↦
                let m = path_member w x a p (any_in x (darts_walked w a p) there) in
                absurd (ne (ap face_number (sym m.3) ∙ face_number_along w face_number tied face_numbers m.0 a l))
            | inr none ↦ ne_eqb (face_number x) (face_number a) ne ∙ sym none
          ]
        ]

pub total-ones : (xs : List ℕ) → total (map (λ (_ : ℕ). 1) xs) ≡ length xs
total-ones [] = refl
total-ones (x ∷ xs) = omega (arith, total-ones xs)

-- the angles on the walk are those of the face, and so are the darts
pub orbit_angles : (w : DartMap) (face_number : ℕ → ℕ) (a p : ℕ) → IsTied w → AreFaceNumbers w face_number → a < w.darts → HasPeriod w a p →
    angles_around_face w face_number (face_number a) ≡ total (map w.angle (darts_walked w a p))
orbit_angles w face_number a p tied face_numbers l period = numbered_sum w face_number a p w.angle tied face_numbers l period

pub orbit_darts : (w : DartMap) (face_number : ℕ → ℕ) (a p : ℕ) → IsTied w → AreFaceNumbers w face_number → a < w.darts → HasPeriod w a p →
    darts_around_face w face_number (face_number a) ≡ length (darts_walked w a p)
orbit_darts w face_number a p tied face_numbers l period = numbered_sum w face_number a p (λ _. 1) tied face_numbers l period ∙ total-ones (darts_walked w a p)

-- so the corners on the walk turn once to the left,
pub orbit_once : (w : DartMap) (face_number : ℕ → ℕ) (outer a p : ℕ) → IsTied w → HasTurns w face_number outer → a < w.darts → HasPeriod w a p →
    face_number a ≢ outer → TurnsOnce w (turning w (darts_walked w a p))
orbit_once w face_number outer a p tied turns l period inner =
    omega (
      arith,
      turning_total w (darts_walked w a p),
      orbit_angles w face_number a p tied turns.face_numbers l period,
      orbit_darts w face_number a p tied turns.face_numbers l period,
      turns.inner a l inner,
    )

-- and those round the outer face once to the right
pub orbit_outside : (w : DartMap) (face_number : ℕ → ℕ) (a p : ℕ) → IsTied w → HasTurns w face_number (face_number a) → a < w.darts → HasPeriod w a p →
    total (map w.angle (turning w (darts_walked w a p))) ≡ 2 * length (turning w (darts_walked w a p)) + 4
orbit_outside w face_number a p tied turns l period =
    omega (
      arith,
      turning_total w (darts_walked w a p),
      orbit_angles w face_number a p tied turns.face_numbers l period,
      orbit_darts w face_number a p tied turns.face_numbers l period,
      turns.outer_turns,
    )

-- where angles are no more than straight, they do not turn to the right
pub flat_total : (f : ℕ → ℕ) (xs : List ℕ) → ((x : ℕ) → In x xs → f x ≤ 2) → total (map f xs) ≤ 2 * length xs
flat_total f [] flat = omega arith
flat_total f (x ∷ xs) flat = omega (arith, flat x (inl refl), flat_total f xs (λ y h. flat y (inr h)))

-- on each walk there is a corner
pub turns_reach : (w : DartMap) (face_number : ℕ → ℕ) (outer : ℕ) → IsTied w → HasTurns w face_number outer → ReachesCorners w
turns_reach w face_number outer tied turns = λ a l.
    let period = orbit_of w tied a l in
    first w a (turning w (darts_walked w a period.0)) (path_trail w a period.0) (some a l period.0 period.1)
  where
    first : (w : DartMap) (a : ℕ) (cs : List ℕ) → Trail w a cs → 0 < length cs → (c : ℕ) × Stretches w a c
    first w a [] trail more = absurd (omega arith)
    first w a (c ∷ cs) trail more = (c, trail.0)

    some : (a : ℕ) → a < w.darts → (p : ℕ) → HasPeriod w a p → 0 < length (turning w (darts_walked w a p))
    some a l p period =
        elim (cases_eq (length (turning w (darts_walked w a p))) 0) [
          | inl none ↦
              let empty : total (map w.angle (turning w (darts_walked w a p))) ≡ 0 = no_total (turning w (darts_walked w a p)) none in
              elim (cases_eq (face_number a) outer) [
                | inl e ↦ absurd (omega (
                  arith,
                  orbit_outside w face_number a p tied (subst (HasTurns w face_number) (sym e) turns) l period,
                  none,
                  empty,
                ))
                | inr inner ↦ absurd (omega (arith, orbit_once w face_number outer a p tied turns l period inner, none, empty))
              ]
          | inr more ↦ omega arith
        ]
      where
        no_total : (cs : List ℕ) → length cs ≡ 0 → total (map w.angle cs) ≡ 0
        no_total [] none = refl
        no_total (c ∷ cs) none = absurd (omega (arith, none))
