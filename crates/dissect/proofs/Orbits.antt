-- Walks by "next": what they pass, and when they are back.
use Rattle.std.proofs.Common.{◌≡◌, ◌≢◌, ◌⊎◌, ℕ, zero, suc, ◌+◌, ◌-◌, ◌*◌, ◌<◌, ◌≤◌, ◌∙◌, List, [], ◌∷◌, ◌++◌, Bool, true, false, cond, eqb, length, map, arith, subst, sym, ap, refl, inl, inr}
use Rattle.std.specs.List.{list_any, IsDistinct, AllByRecursion}
use Rattle.std.proofs.lemmas.Bool.{cases_eq, eqb-true, eq-eqb, ne_eqb, or_cases, or_left, or_right, both_ways}
use Rattle.std.proofs.lemmas.Map.Steps.{length-le_from_distinct_below}
use Rattle.dissect.specs.DartMaps.{DartMap, IsTied}
use Rattle.dissect.specs.Faces.{IsCorner, Trail, last_of, Ring, In, Distinct, Below}
use Rattle.dissect.specs.Turning.{total}
use Rattle.dissect.proofs.Stretching.{stretch_more, stretch_direct}
use Rattle.dissect.proofs.Rings.{last_of-append}
use Rattle.dissect.specs.Walks.{steps, darts_walked, turning, HasPeriod}

pub steps_in : (w : DartMap) → IsTied w → (k a : ℕ) → a < w.darts → steps w k a < w.darts
steps_in w tied zero a l = l
steps_in w tied (suc k) a l = steps_in w tied k (w.next a) (tied.next_in a l)

pub steps_more : (w : DartMap) (k a : ℕ) → steps w (suc k) a ≡ w.next (steps w k a)
steps_more w zero a = refl
steps_more w (suc k) a = steps_more w k (w.next a)

pub steps_add : (w : DartMap) (j k a : ℕ) → steps w (j + k) a ≡ steps w k (steps w j a)
steps_add w zero k a = let e : zero + k ≡ k = omega arith in ap (λ (i : ℕ). steps w i a) e
steps_add w (suc j) k a =
    let e : suc j + k ≡ suc (j + k) = omega arith in
    ap (λ (i : ℕ). steps w i a) e ∙ steps_add w j k (w.next a)

pub steps_one : (w : DartMap) → IsTied w → (k a b : ℕ) → a < w.darts → b < w.darts → steps w k a ≡ steps w k b → a ≡ b
steps_one w tied zero a b la lb e = e
steps_one w tied (suc k) a b la lb e =
    let same : w.next a ≡ w.next b = steps_one w tied k (w.next a) (w.next b) (tied.next_in a la) (tied.next_in b lb) e in
    sym (tied.next_back a la) ∙ ap w.prev same ∙ tied.next_back b lb

-- what the path holds, by steps
pub path_member : (w : DartMap) (x a k : ℕ) → In x (darts_walked w a k) → (j : ℕ) × (1 ≤ j) × (j ≤ k) × (steps w j a ≡ x)
path_member w x a zero here = absurd here
path_member w x a (suc k) here =
    elim here [
      | inl e ↦ (1, omega arith, omega arith, sym e)
      | inr later ↦ let m = path_member w x (w.next a) k later in (suc m.0, omega arith, omega (arith, m.2), m.3)
    ]

pub path_holds : (w : DartMap) (a k j : ℕ) → 1 ≤ j → j ≤ k → In (steps w j a) (darts_walked w a k)
path_holds w a zero j some most = absurd (omega arith)
path_holds w a (suc k) zero some most = absurd (omega arith)
path_holds w a (suc k) (suc zero) some most = inl refl
path_holds w a (suc k) (suc (suc j)) some most = inr (path_holds w (w.next a) k (suc j) (omega arith) (omega arith))

pub path_more : (w : DartMap) (a k : ℕ) → darts_walked w a (suc k) ≡ darts_walked w a k ++ (steps w (suc k) a ∷ [])
path_more w a zero = refl
path_more w a (suc k) = ap (λ (xs : List ℕ). w.next a ∷ xs) (path_more w (w.next a) k)

pub length-darts_walked : (w : DartMap) (a k : ℕ) → length (darts_walked w a k) ≡ k
length-darts_walked w a zero = refl
length-darts_walked w a (suc k) = ap suc (length-darts_walked w (w.next a) k)

pub path_below : (w : DartMap) → IsTied w → (a k : ℕ) → a < w.darts → Below w.darts (darts_walked w a k)
path_below w tied a zero l = tt
path_below w tied a (suc k) l = (tied.next_in a l, path_below w tied (w.next a) k (tied.next_in a l))

pub path_distinct : (w : DartMap) (a k : ℕ) → ((i j : ℕ) → 1 ≤ i → i < j → j ≤ k → steps w i a ≢ steps w j a) → Distinct (darts_walked w a k)
path_distinct w a zero apart = tt
path_distinct w a (suc k) apart = (
  (λ here. let m = path_member w (w.next a) (w.next a) k here in apart 1 (suc m.0) (omega arith) (omega (arith, m.1)) (omega (arith, m.2)) (sym m.3)),
  path_distinct w (w.next a) k (λ i j some less most. apart (suc i) (suc j) (omega arith) (omega arith) (omega arith)),
)

-- steps that meet come back
pub steps_meet : (w : DartMap) → IsTied w → (a i j : ℕ) → a < w.darts → i < j → steps w i a ≡ steps w j a → steps w (j - i) a ≡ a
steps_meet w tied a i j l less same =
    let e : j ≡ (j - i) + i = omega arith in
    let far : steps w j a ≡ steps w i (steps w (j - i) a) = ap (λ (k : ℕ). steps w k a) e ∙ steps_add w (j - i) i a in
    sym (steps_one w tied i a (steps w (j - i) a) l (steps_in w tied (j - i) a l) (same ∙ far))

apart_from_all : (x : ℕ) (xs : List ℕ) → (In x xs → ⊥) → AllByRecursion (λ y. eqb x y ≡ false) xs
apart_from_all x [] out = tt
apart_from_all x (y ∷ ys) out = (ne_eqb x y (λ e. out (inl e)), apart_from_all x ys (λ h. out (inr h)))

distinct_std : (xs : List ℕ) → Distinct xs → IsDistinct eqb xs
unfolding IsDistinct
distinct_std [] distinct = tt
distinct_std (x ∷ xs) distinct = (apart_from_all x xs distinct.0, distinct_std xs distinct.1)

pub any_in : (x : ℕ) (xs : List ℕ) → list_any (eqb x) xs ≡ true → In x xs
any_in x [] h = absurd (both_ways false refl h)
any_in x (y ∷ ys) h =
    elim (or_cases (eqb x y) (list_any (eqb x) ys) h) [ inl here ↦ inl (eqb-true x y here) | inr later ↦ inr (any_in x ys later) ]

pub in_any : (x : ℕ) (xs : List ℕ) → In x xs → list_any (eqb x) xs ≡ true
in_any x [] here = absurd here
in_any x (y ∷ ys) here =
    elim here [
      | inl e ↦ or_left (eqb x y) (list_any (eqb x) ys) (eq-eqb x y e)
      | inr later ↦ or_right (eqb x y) (list_any (eqb x) ys) (in_any x ys later)
    ]

pub below_each : (n x : ℕ) (xs : List ℕ) → Below n xs → In x xs → x < n
below_each n x [] below here = absurd here
below_each n x (y ∷ ys) below here = elim here [ inl e ↦ omega (arith, e, below.0) | inr later ↦ below_each n x ys below.1 later ]

-- numbers below n without repeats are at most n
pub distinct_few : (n : ℕ) (xs : List ℕ) → Distinct xs → Below n xs → length xs ≤ n
distinct_few n xs distinct below =
    length-le_from_distinct_below xs n (distinct_std xs distinct) (λ x h. below_each n x xs below (any_in x xs h))

-- the first of the steps 1 .. k that is back, or none is
back_within : (w : DartMap) (a k : ℕ) →
    ((p : ℕ) × (1 ≤ p) × (p ≤ k) × (steps w p a ≡ a) × ((j : ℕ) → 1 ≤ j → j < p → steps w j a ≢ a))
    ⊎ ((j : ℕ) → 1 ≤ j → j ≤ k → steps w j a ≢ a)
back_within w a zero = inr (λ j some most. absurd (omega arith))
back_within w a (suc k) =
    elim (back_within w a k) [
      | inl found ↦ inl (found.0, found.1, omega (arith, found.2), found.3, found.4)
      | inr none ↦ elim (cases_eq (steps w (suc k) a) a) [
        | inl back ↦ inl (suc k, omega arith, omega arith, back, λ j some less. none j some (omega arith))
        | inr away ↦ inr (λ j some most. elim (cases_eq j (suc k)) [
          | inl e ↦ λ h. away (ap (λ (i : ℕ). steps w i a) (sym e) ∙ h)
          | inr other ↦ none j some (omega arith)
        ])
      ]
    ]

pub orbit_of : (w : DartMap) → IsTied w → (a : ℕ) → a < w.darts → (p : ℕ) × HasPeriod w a p
orbit_of w tied a l =
    elim (back_within w a w.darts) [
      | inl found ↦ (found.0, record { some = found.1; most = found.2; back = found.3; first = found.4 })
      | inr none ↦ absurd (
          let n : ℕ = w.darts in
          let all : Distinct (a ∷ darts_walked w a n) = (
            (λ here. let m = path_member w a a n here in none m.0 m.1 m.2 m.3),
            path_distinct w a n (λ i j some less most same. none (j - i) (omega arith) (omega arith) (steps_meet w tied a i j l less same)),
          ) in
          let few : length (a ∷ darts_walked w a n) ≤ n = distinct_few n (a ∷ darts_walked w a n) all (l, path_below w tied a n l) in
          omega (arith, few, length-darts_walked w a n)
          )
    ]

pub orbit_distinct : (w : DartMap) (a p : ℕ) → IsTied w → a < w.darts → HasPeriod w a p → Distinct (darts_walked w a p)
orbit_distinct w a p tied l period =
    path_distinct w a p (λ i j some less most same. period.first (j - i) (omega arith) (omega arith) (steps_meet w tied a i j l less same))

-- one more of a list that is filtered by turning
pub turning_straight : (w : DartMap) (a : ℕ) (xs : List ℕ) → w.angle a ≡ 2 → turning w (a ∷ xs) ≡ turning w xs
turning_straight w a xs e = ap (λ (b : Bool). cond b (turning w xs) (a ∷ turning w xs)) (eq-eqb (w.angle a) 2 e)

pub turning_corner : (w : DartMap) (a : ℕ) (xs : List ℕ) → w.angle a ≢ 2 → turning w (a ∷ xs) ≡ a ∷ turning w xs
turning_corner w a xs e = ap (λ (b : Bool). cond b (turning w xs) (a ∷ turning w xs)) (ne_eqb (w.angle a) 2 e)

pub turning-append : (w : DartMap) (xs ys : List ℕ) → turning w (xs ++ ys) ≡ turning w xs ++ turning w ys
turning-append w [] ys = refl
turning-append w (x ∷ xs) ys =
    elim (cases_eq (w.angle x) 2) [
      | inl e ↦ turning_straight w x (xs ++ ys) e ∙ turning-append w xs ys ∙ ap (λ (zs : List ℕ). zs ++ turning w ys) (sym (turning_straight w x xs e))
      | inr e ↦ turning_corner w x (xs ++ ys) e ∙ ap (λ (zs : List ℕ). x ∷ zs) (turning-append w xs ys)
          ∙ ap (λ (zs : List ℕ). zs ++ turning w ys) (sym (turning_corner w x xs e))
    ]

pub in_turning : (w : DartMap) (x : ℕ) (xs : List ℕ) → In x (turning w xs) → In x xs × IsCorner w x
in_turning w x [] here = absurd here
in_turning w x (y ∷ ys) here =
    elim (cases_eq (w.angle y) 2) [
      | inl e ↦ let m = in_turning w x ys (subst (In x) (turning_straight w y ys e) here) in (inr m.0, m.1)
      | inr corner ↦ elim (go w x y ys (subst (In x) (turning_corner w y ys corner) here)) [
        | inl e ↦ (inl e, λ h. corner (sym (ap w.angle e) ∙ h))
        | inr later ↦ let m = in_turning w x ys later in (inr m.0, m.1)
      ]
    ]
  where
    go : (w : DartMap) (x y : ℕ) (ys : List ℕ) → In x (y ∷ turning w ys) → (x ≡ y) ⊎ In x (turning w ys)
    go w x y ys here = here

pub turning_in : (w : DartMap) (x : ℕ) (xs : List ℕ) → In x xs → IsCorner w x → In x (turning w xs)
turning_in w x [] here corner = absurd here
turning_in w x (y ∷ ys) here corner =
    elim here [
      | inl e ↦ subst (In x) (sym (turning_corner w y ys (λ h. corner (ap w.angle e ∙ h)))) (inl e)
      | inr later ↦ elim (cases_eq (w.angle y) 2) [
        | inl e ↦ subst (In x) (sym (turning_straight w y ys e)) (turning_in w x ys later corner)
        | inr e ↦ subst (In x) (sym (turning_corner w y ys e)) (inr (turning_in w x ys later corner))
      ]
    ]

pub turning_distinct : (w : DartMap) (xs : List ℕ) → Distinct xs → Distinct (turning w xs)
turning_distinct w [] distinct = tt
turning_distinct w (y ∷ ys) distinct =
    elim (cases_eq (w.angle y) 2) [
      | inl e ↦ subst Distinct (sym (turning_straight w y ys e)) (turning_distinct w ys distinct.1)
      | inr e ↦ subst Distinct (sym (turning_corner w y ys e)) ((λ here. distinct.0 (in_turning w y ys here).0), turning_distinct w ys distinct.1)
    ]

pub turning_below : (w : DartMap) (n : ℕ) (xs : List ℕ) → Below n xs → Below n (turning w xs)
turning_below w n [] below = tt
turning_below w n (y ∷ ys) below =
    elim (cases_eq (w.angle y) 2) [
      | inl e ↦ subst (Below n) (sym (turning_straight w y ys e)) (turning_below w n ys below.1)
      | inr e ↦ subst (Below n) (sym (turning_corner w y ys e)) (below.0, turning_below w n ys below.1)
    ]

-- straight darts turn by nothing
pub turning_total : (w : DartMap) (xs : List ℕ) →
    total (map w.angle xs) + 2 * length (turning w xs) ≡ total (map w.angle (turning w xs)) + 2 * length xs
turning_total w [] = refl
turning_total w (y ∷ ys) =
    elim (cases_eq (w.angle y) 2) [
      | inl e ↦ subst (λ (zs : List ℕ). total (map w.angle (y ∷ ys)) + 2 * length zs ≡ total (map w.angle zs) + 2 * length (y ∷ ys))
          (sym (turning_straight w y ys e)) (omega (arith, turning_total w ys, e))
      | inr e ↦ subst (λ (zs : List ℕ). total (map w.angle (y ∷ ys)) + 2 * length zs ≡ total (map w.angle zs) + 2 * length (y ∷ ys))
          (sym (turning_corner w y ys e)) (omega (arith, turning_total w ys))
    ]

trail_behind : (w : DartMap) (a b : ℕ) (cs : List ℕ) → w.next a ≡ b → w.angle b ≡ 2 → Trail w b cs → Trail w a cs
trail_behind w a b [] to straight trail = tt
trail_behind w a b (c ∷ cs) to straight trail = (stretch_more w a b c to straight trail.0, trail.1)

-- the corners on a walk are a trail
pub path_trail : (w : DartMap) (a k : ℕ) → Trail w a (turning w (darts_walked w a k))
path_trail w a zero = tt
path_trail w a (suc k) =
    let b : ℕ = w.next a in
    let rest : Trail w b (turning w (darts_walked w b k)) = path_trail w b k in
    elim (cases_eq (w.angle b) 2) [
      | inl straight ↦ subst (Trail w a) (sym (turning_straight w b (darts_walked w b k) straight))
          (trail_behind w a b (turning w (darts_walked w b k)) refl straight rest)
      | inr corner ↦ subst (Trail w a) (sym (turning_corner w b (darts_walked w b k) corner)) (stretch_direct w a b refl corner, rest)
    ]

trail_ring : (w : DartMap) (a : ℕ) (front cs : List ℕ) → cs ≡ front ++ (a ∷ []) → Trail w a cs → Ring w cs
trail_ring w a front [] e trail = nothing front e
  where
    nothing : (front : List ℕ) → [] ≡ front ++ (a ∷ []) → ⊥
    nothing [] e = omega (arith, ap length e)
    nothing (x ∷ xs) e = omega (arith, ap length e)
trail_ring w a front (c ∷ cs) e trail =
    let last : last_of c cs ≡ a = ap (last_of 0) e ∙ last_of-append 0 front (a ∷ []) in
    subst (λ (b : ℕ). Trail w b (c ∷ cs)) (sym last) trail

-- a walk from a corner ends with it
pub orbit_ends : (w : DartMap) (a p : ℕ) → HasPeriod w a p → IsCorner w a →
    turning w (darts_walked w a p) ≡ turning w (darts_walked w a (p - 1)) ++ (a ∷ [])
orbit_ends w a zero period corner = absurd (omega (arith, period.some))
orbit_ends w a (suc q) period corner =
    let less : suc q - 1 ≡ q = omega arith in
    ap (turning w) (path_more w a q ∙ ap (λ (b : ℕ). darts_walked w a q ++ (b ∷ [])) period.back)
    ∙ turning-append w (darts_walked w a q) (a ∷ [])
    ∙ ap (λ (zs : List ℕ). turning w (darts_walked w a q) ++ zs) (turning_corner w a [] corner)
    ∙ ap (λ (k : ℕ). turning w (darts_walked w a k) ++ (a ∷ [])) (sym less)

pub orbit_ring : (w : DartMap) (a p : ℕ) → HasPeriod w a p → IsCorner w a → Ring w (turning w (darts_walked w a p))
orbit_ring w a p period corner =
    trail_ring w a (turning w (darts_walked w a (p - 1))) (turning w (darts_walked w a p)) (orbit_ends w a p period corner) (path_trail w a p)
