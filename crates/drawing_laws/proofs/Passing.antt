-- Which darts of a path pass the points that are met between its ends.
use Rattle.std.proofs.Common.{◌≡◌, ◌≢◌, ℕ, zero, suc, ◌+◌, ◌-◌, ◌<◌, ◌≤◌, ◌⊎◌, ◌∙◌, List, [], ◌∷◌, ◌++◌, map, arith, subst, sym, ap, refl, inl, inr, Contains}
use Rattle.std.proofs.lemmas.Bool.{cases_eq, cases_lt}
use Rattle.std.proofs.lemmas.List.FromFn.{length-map-range_with_len, get_or-map-range_with_len}
use Rattle.std.proofs.lemmas.List.Elements.{Contains-append_cases}
use Rattle.ortho_rep.specs.declared.grid_points.Point.{Point}
use Rattle.dissect.specs.DartMaps.{DartMap, IsSound}
use Rattle.dissect.specs.Faces.{Below, last_of, In, Distinct}
use Rattle.dissect.specs.Paths.{Follows, turn_to, turning_vertices}
use Rattle.dissect.specs.Monotone.{IsMonotone, tail, point_at}
use Rattle.drawing_check.specs.Walks.{step_from, distance, walk, interior, AreDistinct}
use Rattle.drawing_check.proofs.Coverings.{no_repeat_append}
use Rattle.drawing_check.proofs.PathParts.{toward_up, toward_down, toward_same, segment_lists}
use Rattle.drawing_laws.proofs.Sides.{Goes}
use Rattle.drawing_laws.proofs.Apart.{Holds}
use Rattle.drawing_laws.proofs.Lines.{line, line_straight, line_turn, goes_axis, on_straight, on_turn}

-- the point lies on the way from u to v, which has the direction k, or is v
abbrev pub Passes : ℕ → (ℕ → ℕ) → (ℕ → ℕ) → ℕ → ℕ → ℕ → ℕ → Type 0
Passes zero x y px py u v = (y v ≡ py) × (x u < px) × (px ≤ x v)
Passes (suc zero) x y px py u v = (x v ≡ px) × (y u < py) × (py ≤ y v)
Passes (suc (suc zero)) x y px py u v = (y v ≡ py) × (x v ≤ px) × (px < x u)
Passes (suc (suc (suc k))) x y px py u v = (x v ≡ px) × (y v ≤ py) × (py < y u)

-- after a middle vertex or before it
passes_split : (k : ℕ) (x y : ℕ → ℕ) (px py u m v : ℕ) → Goes k x y m v → Passes k x y px py u v → Passes k x y px py u m ⊎ Passes k x y px py m v
passes_split zero x y px py u m v goes (line, low, high) =
    elim (cases_lt (x m) px) [ inl less ↦ inr (line, less, high) | inr more ↦ inl (omega (arith, goes.1, line), low, omega (arith, more)) ]
passes_split (suc zero) x y px py u m v goes (line, low, high) =
    elim (cases_lt (y m) py) [ inl less ↦ inr (line, less, high) | inr more ↦ inl (omega (arith, goes.1, line), low, omega (arith, more)) ]
passes_split (suc (suc zero)) x y px py u m v goes (line, low, high) =
    elim (cases_lt px (x m)) [ inl less ↦ inr (line, low, less) | inr more ↦ inl (omega (arith, goes.1, line), omega (arith, more), high) ]
passes_split (suc (suc (suc k))) x y px py u m v goes (line, low, high) =
    elim (cases_lt py (y m)) [ inl less ↦ inr (line, low, less) | inr more ↦ inl (omega (arith, goes.1, line), omega (arith, more), high) ]

-- it lies inside, or is the end
pub passes_holds : (k : ℕ) (x y : ℕ → ℕ) (px py u v : ℕ) → Passes k x y px py u v → Holds k x y px py u v ⊎ ((px ≡ x v) × (py ≡ y v))
passes_holds zero x y px py u v (line, low, high) =
    elim (cases_lt px (x v)) [ inl less ↦ inl (line, low, less) | inr more ↦ inr (omega (arith, more, high), sym line) ]
passes_holds (suc zero) x y px py u v (line, low, high) =
    elim (cases_lt py (y v)) [ inl less ↦ inl (line, low, less) | inr more ↦ inr (sym line, omega (arith, more, high)) ]
passes_holds (suc (suc zero)) x y px py u v (line, low, high) =
    elim (cases_lt (x v) px) [ inl less ↦ inl (line, less, high) | inr more ↦ inr (omega (arith, more, low), sym line) ]
passes_holds (suc (suc (suc k))) x y px py u v (line, low, high) =
    elim (cases_lt (y v) py) [ inl less ↦ inl (line, less, high) | inr more ↦ inr (sym line, omega (arith, more, low)) ]

-- ---- one segment

-- what a walk holds, by steps
walk_steps : (a b q : Point) (n : ℕ) → Contains (walk a b n) q → (i : ℕ) × (1 ≤ i) × (i ≤ n) × (step_from a b i ≡ q)
walk_steps a b q n (i, inside, is) =
    let i_in : i < n = omega (arith, inside, length-map-range_with_len (step_from a b) 1 n) in
    (1 + i, omega arith, omega (arith, i_in), sym (get_or-map-range_with_len (step_from a b) 1 n i (1 + i) q i_in refl) ∙ is)

-- as many steps as lead to the end, or fewer
walk_passes : (k : ℕ) (x y : ℕ → ℕ) (u v : ℕ) (q : Point) (n : ℕ) → Goes k x y u v → n ≤ distance (point_at x y u) (point_at x y v)
    → Contains (walk (point_at x y u) (point_at x y v) n) q → Passes k x y q.x q.y u v
walk_passes k x y u v q n goes few within =
    let (i, some, most, is) = walk_steps (point_at x y u) (point_at x y v) q n within in
    by_way k i n goes some most few (ap (λ (r : Point). r.x) is) (ap (λ (r : Point). r.y) is)
  where
    by_way : (k i n : ℕ) → Goes k x y u v → 1 ≤ i → i ≤ n → n ≤ distance (point_at x y u) (point_at x y v)
        → (step_from (point_at x y u) (point_at x y v) i).x ≡ q.x → (step_from (point_at x y u) (point_at x y v) i).y ≡ q.y → Passes k x y q.x q.y u v
    by_way zero i n goes some most few ex ey =
        let along = toward_up (x u) (x v) i goes.0 in
        let across = toward_same (y u) (y v) i goes.1 in
        (omega (arith, across, ey, goes.1), omega (arith, along, ex, some), omega (arith, along, ex, most, few, goes.0, goes.1))
    by_way (suc zero) i n goes some most few ex ey =
        let along = toward_up (y u) (y v) i goes.0 in
        let across = toward_same (x u) (x v) i goes.1 in
        (omega (arith, across, ex, goes.1), omega (arith, along, ey, some), omega (arith, along, ey, most, few, goes.0, goes.1))
    by_way (suc (suc zero)) i n goes some most few ex ey =
        let along = toward_down (x u) (x v) i goes.0 in
        let across = toward_same (y u) (y v) i goes.1 in
        (omega (arith, across, ey, goes.1), omega (arith, along, ex, most, few, goes.0, goes.1), omega (arith, along, ex, some, most, few, goes.0, goes.1))
    by_way (suc (suc (suc k))) i n goes some most few ex ey =
        let along = toward_down (y u) (y v) i goes.0 in
        let across = toward_same (x u) (x v) i goes.1 in
        (omega (arith, across, ex, goes.1), omega (arith, along, ey, most, few, goes.0, goes.1), omega (arith, along, ey, some, most, few, goes.0, goes.1))

-- fewer than lead to the end do not reach it
walk_short : (k : ℕ) (x y : ℕ → ℕ) (u v : ℕ) (q : Point) (n : ℕ) → Goes k x y u v → n < distance (point_at x y u) (point_at x y v)
    → Contains (walk (point_at x y u) (point_at x y v) n) q → q.x ≡ x v → q.y ≡ y v → ⊥
walk_short k x y u v q n goes few within at_x at_y =
    let (i, some, most, is) = walk_steps (point_at x y u) (point_at x y v) q n within in
    by_way k i n goes some most few (ap (λ (r : Point). r.x) is) (ap (λ (r : Point). r.y) is)
  where
    by_way : (k i n : ℕ) → Goes k x y u v → 1 ≤ i → i ≤ n → n < distance (point_at x y u) (point_at x y v)
        → (step_from (point_at x y u) (point_at x y v) i).x ≡ q.x → (step_from (point_at x y u) (point_at x y v) i).y ≡ q.y → ⊥
    by_way zero i n goes some most few ex ey =
        omega (arith, toward_up (x u) (x v) i goes.0, ex, most, few, goes.0, goes.1, at_x)
    by_way (suc zero) i n goes some most few ex ey =
        omega (arith, toward_up (y u) (y v) i goes.0, ey, most, few, goes.0, goes.1, at_y)
    by_way (suc (suc zero)) i n goes some most few ex ey =
        omega (arith, toward_down (x u) (x v) i goes.0, ex, most, few, goes.0, goes.1, at_x)
    by_way (suc (suc (suc k))) i n goes some most few ex ey =
        omega (arith, toward_down (y u) (y v) i goes.0, ey, most, few, goes.0, goes.1, at_y)

steps_some : (k : ℕ) (x y : ℕ → ℕ) (u v : ℕ) → Goes k x y u v → 1 ≤ distance (point_at x y u) (point_at x y v)
steps_some zero x y u v goes = omega (arith, goes.0)
steps_some (suc zero) x y u v goes = omega (arith, goes.0)
steps_some (suc (suc zero)) x y u v goes = omega (arith, goes.0)
steps_some (suc (suc (suc k))) x y u v goes = omega (arith, goes.0)

-- a walk meets no point twice
walk_once : (k : ℕ) (x y : ℕ → ℕ) (u v n : ℕ) → Goes k x y u v → n ≤ distance (point_at x y u) (point_at x y v)
    → AreDistinct (walk (point_at x y u) (point_at x y v) n)
walk_once k x y u v zero goes few = λ i j d less within same. absurd (omega (arith, within))
walk_once k x y u v (suc n) goes few =
    (segment_lists (point_at x y u) (point_at x y v) (suc n) (goes_axis k x y u v goes) (omega arith) few).once

-- ---- a path

last_on : (b : ℕ) (bs : List ℕ) → In (last_of b bs) (b ∷ bs)
last_on b [] = inl refl
last_on b (c ∷ cs) = inr (last_on c cs)

-- the point is not the one where the dart e arrives, if that is the dart z
abbrev pub IsBefore : DartMap → (ℕ → ℕ) → (ℕ → ℕ) → ℕ → ℕ → ℕ → ℕ → Type 0
IsBefore w x y px py z e = (px ≡ x (w.head z)) → (py ≡ y (w.head z)) → z ≢ e

-- the dart z passes the point
abbrev pub PassesAt : DartMap → (ℕ → ℕ) → (ℕ → ℕ) → ℕ → ℕ → ℕ → Type 0
PassesAt w x y px py z = Passes (w.direction z) x y px py (tail w z) (w.head z)

-- what is met along a path is passed by its first stretch, or by one of the darts after it
abbrev IsMet : DartMap → (ℕ → ℕ) → (ℕ → ℕ) → ℕ → ℕ → List ℕ → ℕ → ℕ → Type 0
IsMet w x y u a rest px py =
    (Passes (w.direction a) x y px py u (w.head a) × IsBefore w x y px py a (last_of a rest))
    ⊎ ((z : ℕ) × In z rest × PassesAt w x y px py z × IsBefore w x y px py z (last_of a rest))

inner_more : (a b e : Point) (ps : List Point) → interior (a ∷ b ∷ (ps ++ e ∷ [])) ≡ walk a b (distance a b) ++ interior (b ∷ (ps ++ e ∷ []))
inner_more a b e [] = refl
inner_more a b e (p ∷ ps) = refl

-- up to a corner, and on from there
inner_turn : (w : DartMap) (x y : ℕ → ℕ) (u a b : ℕ) (bs : List ℕ) → turn_to w a b ≢ 0 → interior (line w x y u a (b ∷ bs))
    ≡ walk (point_at x y u) (point_at x y (w.head a)) (distance (point_at x y u) (point_at x y (w.head a))) ++ interior (line w x y (w.head a) b bs)
inner_turn w x y u a b bs some =
    ap interior (line_turn w x y u a b bs some)
    ∙ inner_more (point_at x y u) (point_at x y (w.head a)) (point_at x y (w.head (last_of b bs))) (map (point_at x y) (turning_vertices w b bs))

module _ (w : DartMap) (sound : IsSound w) (x y : ℕ → ℕ) (monotone : IsMonotone w x y) where
  pub line_met : (u a : ℕ) (rest : List ℕ) (q : Point) → a < w.darts → Below w.darts rest → Follows w a rest → Distinct (a ∷ rest)
      → Goes (w.direction a) x y u (w.head a) → Contains (interior (line w x y u a rest)) q → IsMet w x y u a rest q.x q.y
  line_met u a [] q a_in below follows distinct goes within =
      let n : ℕ = distance (point_at x y u) (point_at x y (w.head a)) - 1 in
      let some = steps_some (w.direction a) x y u (w.head a) goes in
      inl (
        walk_passes (w.direction a) x y u (w.head a) q n goes (omega arith) within,
        λ ex ey. absurd (walk_short (w.direction a) x y u (w.head a) q n goes (omega (arith, some)) within ex ey),
      )
  line_met u a (b ∷ bs) q a_in below follows distinct goes within =
      let not_last : a ≢ last_of b bs = λ e. distinct.0 (subst (λ (z : ℕ). In z (b ∷ bs)) (sym e) (last_on b bs)) in
      elim (cases_eq (turn_to w a b) 0) [
        | inl none ↦
            let (way, on) = on_straight w sound x y monotone u a b a_in below.0 follows.1 none goes in
            let next : Goes (w.direction b) x y (w.head a) (w.head b) = on_turn w sound x y monotone a b below.0 follows.1 in
            elim (line_met u b bs q below.0 below.1 follows.2 distinct.1 on (subst (λ (path : List Point). Contains (interior path) q) (line_straight w x y u a b bs none) within)) [
              | inl (passes, before) ↦ elim (passes_split (w.direction b) x y q.x q.y u (w.head a) (w.head b) next passes) [
                | inl first ↦ inl (subst (λ (k : ℕ). Passes k x y q.x q.y u (w.head a)) way first, λ ex ey. not_last)
                | inr later ↦ inr (b, inl refl, subst (λ (v : ℕ). Passes (w.direction b) x y q.x q.y v (w.head b)) (sym follows.1) later, before)
              ]
              | inr (z, inside, passes, before) ↦ inr (z, inr inside, passes, before)
            ]
        | inr some ↦
            let next : Goes (w.direction b) x y (w.head a) (w.head b) = on_turn w sound x y monotone a b below.0 follows.1 in
            elim (Contains-append_cases (walk (point_at x y u) (point_at x y (w.head a)) (distance (point_at x y u) (point_at x y (w.head a)))) (interior (line w x y (w.head a) b bs)) q
            (subst (λ (ps : List Point). Contains ps q) (inner_turn w x y u a b bs some) within)) [
              | inl first ↦ inl (
                walk_passes (w.direction a) x y u (w.head a) q (distance (point_at x y u) (point_at x y (w.head a))) goes (omega arith) first,
                λ ex ey. not_last,
              )
              | inr later ↦ elim (line_met (w.head a) b bs q below.0 below.1 follows.2 distinct.1 next later) [
                | inl (passes, before) ↦ inr (b, inl refl, subst (λ (v : ℕ). Passes (w.direction b) x y q.x q.y v (w.head b)) (sym follows.1) passes, before)
                | inr (z, inside, passes, before) ↦ inr (z, inr inside, passes, before)
              ]
            ]
      ]

  -- where no two darts of a path pass one point, none is met twice along it: F are the darts of the first stretch
  pub line_once : (all : ℕ → Type 0) → ((z c px py : ℕ) → all z → all c → PassesAt w x y px py z → PassesAt w x y px py c → z ≡ c)
      → (u a : ℕ) (rest : List ℕ) (first : ℕ → Type 0) → a < w.darts → Below w.darts rest → Follows w a rest → Distinct (a ∷ rest)
      → Goes (w.direction a) x y u (w.head a)
      → ((z : ℕ) → first z → all z) → ((z : ℕ) → In z rest → all z) → ((z c : ℕ) → first z → In c rest → z ≢ c)
      → ((px py : ℕ) → Passes (w.direction a) x y px py u (w.head a) → (z : ℕ) × first z × PassesAt w x y px py z)
      → AreDistinct (interior (line w x y u a rest))
  line_once all one u a [] first a_in below follows distinct goes in_first in_rest apart covers =
      walk_once (w.direction a) x y u (w.head a) (distance (point_at x y u) (point_at x y (w.head a)) - 1) goes (omega arith)
  line_once all one u a (b ∷ bs) first a_in below follows distinct goes in_first in_rest apart covers =
      let next : Goes (w.direction b) x y (w.head a) (w.head b) = on_turn w sound x y monotone a b below.0 follows.1 in
      let here : (px py : ℕ) → Passes (w.direction b) x y px py (w.head a) (w.head b) → PassesAt w x y px py b =
      λ px py passes. subst (λ (v : ℕ). Passes (w.direction b) x y px py v (w.head b)) (sym follows.1) passes in
      elim (cases_eq (turn_to w a b) 0) [
        | inl none ↦
            let (way, on) = on_straight w sound x y monotone u a b a_in below.0 follows.1 none goes in
            subst (λ (path : List Point). AreDistinct (interior path)) (sym (line_straight w x y u a b bs none))
            (line_once all one u b bs (λ z. first z ⊎ (z ≡ b)) below.0 below.1 follows.2 distinct.1 on
            (λ z this. elim this [ inl early ↦ in_first z early | inr at ↦ subst all (sym at) (in_rest b (inl refl)) ])
            (λ z later. in_rest z (inr later))
            (λ z c this later. elim this [
              | inl early ↦ apart z c early (inr later)
              | inr at ↦ λ e. distinct.1.0 (subst (λ (d : ℕ). In d bs) (sym e ∙ at) later)
            ])
            (λ px py passes. elim (passes_split (w.direction b) x y px py u (w.head a) (w.head b) next passes) [
              | inl before ↦
                  let (z, early, passes') = covers px py (subst (λ (k : ℕ). Passes k x y px py u (w.head a)) way before) in
                  (z, inl early, passes')
              | inr behind ↦ (b, inr refl, here px py behind)
            ]))
        | inr some ↦
            let n : ℕ = distance (point_at x y u) (point_at x y (w.head a)) in
            subst AreDistinct (sym (inner_turn w x y u a b bs some))
            (no_repeat_append (walk (point_at x y u) (point_at x y (w.head a)) n) (interior (line w x y (w.head a) b bs))
            (walk_once (w.direction a) x y u (w.head a) n goes (omega arith))
            (line_once all one (w.head a) b bs (λ z. z ≡ b) below.0 below.1 follows.2 distinct.1 next
            (λ z at. subst all (sym at) (in_rest b (inl refl)))
            (λ z later. in_rest z (inr later))
            (λ z c at later e. distinct.1.0 (subst (λ (d : ℕ). In d bs) (sym e ∙ at) later))
            (λ px py passes. (b, refl, here px py passes)))
            (λ q front back.
            let (z, early, passes) = covers q.x q.y (walk_passes (w.direction a) x y u (w.head a) q n goes (omega arith) front) in
            elim (line_met (w.head a) b bs q below.0 below.1 follows.2 distinct.1 next back) [
              | inl (passes', before) ↦
                  apart z b early (inl refl) (one z b q.x q.y (in_first z early) (in_rest b (inl refl)) passes (here q.x q.y passes'))
              | inr (c, later, passes', before) ↦
                  apart z c early (inr later) (one z c q.x q.y (in_first z early) (in_rest c (inr later)) passes passes')
            ]))
      ]
