-- Counting corners: how many edges touch faces that do not belong to a set which is closed to the north.
use Rattle.std.proofs.Common.{◌≡◌, ◌≢◌, ℕ, zero, suc, ◌+◌, ◌*◌, ◌%◌, ◌<◌, ◌≤◌, ◌⊎◌, Bool, true, false, ◌&&◌, cond, eqb, ltb, arith, refl, sym, ap, ◌∙◌, inl, inr}
use Rattle.std.proofs.lemmas.Bool.{cases_eq, cases_Bool, eq-eqb, ne_eqb, lt-ltb, ltb-true, ltb-false, cond-true, cond-false, both_ways, and_from}
use Rattle.common.specs.Sums.{sum_below}
use Rattle.common.proofs.Sums.{sum_below-same, sum_below-add, sum_below-le, sum_below-member, sum_below-none, sum_below-turned, exchanged}
use Rattle.embedding.specs.Darts.{IsOneToOne}
use Rattle.dissect.specs.DartMaps.{DartMap, IsSound}
use Rattle.dissect.proofs.Reordered.{sum_at, sum_at-add, sum_at-times, sum_at-same, reordered_at}
use Rattle.drawing_laws.proofs.FaceNumbering.{OfFaces}

-- the dart that arrives next clockwise
abbrev pub clockwise : DartMap → ℕ → ℕ
clockwise w a = w.reverse_dart (w.next a)

-- one for a dart at whose head the corner on its left reaches over the north-west
abbrev pub wraps : DartMap → ℕ → ℕ
wraps w a = cond (ltb (w.direction a) (w.angle a)) 1 0

-- one for a dart to the east or the north
abbrev pub onward : DartMap → ℕ → ℕ
onward w a = cond (ltb (w.direction a) 2) 1 0

-- one for a dart to the north at the upper right corner of a box that is not of the set
abbrev pub boxes_off : DartMap → (ℕ → Bool) → ℕ → ℕ
boxes_off w s a = cond (s a) 0 (cond (eqb (w.direction a) 1 && eqb (w.angle a) 1) 1 0)

-- one for an edge that touches a face which is not of the set
abbrev pub touches : DartMap → (ℕ → Bool) → ℕ → ℕ
touches w s a = cond (s a && s (w.reverse_dart a)) 0 1

-- what is counted at the head of a dart
abbrev pub counted : DartMap → (ℕ → Bool) → ℕ → ℕ
counted w s a = cond (s a) (cond (s (w.reverse_dart a)) 0 (onward w a)) (wraps w a)

test_lt : (x y : ℕ) → ((x < y) × (cond {A = ℕ} (ltb x y) 1 0 ≡ 1)) ⊎ ((y ≤ x) × (cond {A = ℕ} (ltb x y) 1 0 ≡ 0))
test_lt x y =
    elim (cases_Bool (ltb x y)) [
      | inl less ↦ inl (ltb-true x y less, cond-true {A = ℕ} (ltb x y) 1 0 less)
      | inr more ↦ inr (ltb-false x y more, cond-false {A = ℕ} (ltb x y) 1 0 more)
    ]

module _ (w : DartMap) (sound : IsSound w) where
  pub next_one : IsOneToOne w.darts w.next
  next_one = record {
    inside = sound.tied.next_in;
    one = λ a b a_in b_in same. sym (sound.tied.next_back a a_in) ∙ ap w.prev same ∙ sound.tied.next_back b b_in;
  }

  pub clockwise_one : IsOneToOne w.darts (clockwise w)
  clockwise_one = record {
    inside = λ a a_in. sound.tied.reverse_dart_in (w.next a) (sound.tied.next_in a a_in);
    one = λ a b a_in b_in same.
        next_one.one a b a_in b_in
        (sym (sound.tied.reverse_dart_back (w.next a) (sound.tied.next_in a a_in)) ∙ ap w.reverse_dart same ∙ sound.tied.reverse_dart_back (w.next b) (sound.tied.next_in b b_in));
  }

  clockwise_in : (a : ℕ) → a < w.darts → clockwise w a < w.darts
  clockwise_in a a_in = clockwise_one.inside a a_in

  turned : (a : ℕ) → a < w.darts → w.direction (clockwise w a) + w.angle a ≡ w.direction a + 4 * wraps w a
  turned a a_in =
      let m = sound.meeting in
      elim (test_lt (w.direction a) (w.angle a)) [
        | inl less ↦ omega (arith, less.0, less.1, m.turns a a_in, m.quarter a a_in, m.quarter (clockwise w a) (clockwise_in a a_in), m.some a a_in, m.most a a_in)
        | inr more ↦ omega (arith, more.0, more.1, m.turns a a_in, m.quarter a a_in, m.quarter (clockwise w a) (clockwise_in a a_in), m.some a a_in, m.most a a_in)
      ]

  -- what a sum at a vertex is when each dart's summand is that of the next clockwise
  pub moved : (u : ℕ) (f : ℕ → ℕ) → sum_at w.darts w.head u (λ a. f (clockwise w a)) ≡ sum_at w.darts w.head u f
  moved u f = reordered_at w.darts (clockwise w) w.head u f clockwise_one sound.meeting.meets

  -- at each vertex one corner reaches over the north-west
  wraps_once : (u : ℕ) → u < w.vertices → sum_at w.darts w.head u (wraps w) ≡ 1
  wraps_once u u_in =
      let n : ℕ = w.darts in
      let same : sum_at n w.head u (λ a. w.direction (clockwise w a) + w.angle a) ≡ sum_at n w.head u (λ a. w.direction a + 4 * wraps w a) =
      sum_at-same n w.head u (λ a. w.direction (clockwise w a) + w.angle a) (λ a. w.direction a + 4 * wraps w a) turned in
      let left = sum_at-add n w.head u (λ a. w.direction (clockwise w a)) w.angle in
      let right = sum_at-add n w.head u w.direction (λ a. 4 * wraps w a) in
      let four = sum_at-times n w.head u 4 (wraps w) in
      let whole : sum_at n w.head u w.angle ≡ 4 = sound.meeting.whole u u_in in
      omega (arith, same, left, right, four, whole, moved u w.direction)

  -- ---- a set of faces that is closed to the north

  module _ (s : ℕ → Bool) (of : OfFaces w s)
      (upward : (a : ℕ) → a < w.darts → w.direction a ≡ 0 → s (w.reverse_dart a) ≡ true → s a ≡ true) where
    -- one for a dart to the east within the set
    abbrev within : ℕ → ℕ
    within a = cond (s a && s (w.reverse_dart a)) (cond (eqb (w.direction a) 0) 1 0) 0

    bound : (a : ℕ) → a < w.darts → counted w s a + within a ≤ wraps w a + within (clockwise w a)
    bound a a_in =
        elim (cases_Bool (s a)) [
          | inr off ↦ omega (
            arith,
            cond-false {A = ℕ} (s a) (cond (s (w.reverse_dart a)) 0 (onward w a)) (wraps w a) off,
            ap {B = ℕ} (λ (b : Bool). cond (b && s (w.reverse_dart a)) (cond (eqb (w.direction a) 0) 1 0) 0) off,
          )
          | inl on ↦ elim (cases_Bool (s (w.reverse_dart a))) [
            | inl inner ↦ omega (
              arith,
              cond-true {A = ℕ} (s a) (cond (s (w.reverse_dart a)) 0 (onward w a)) (wraps w a) on,
              cond-true {A = ℕ} (s (w.reverse_dart a)) 0 (onward w a) inner,
              cond-true {A = ℕ} (s a && s (w.reverse_dart a)) (cond (eqb (w.direction a) 0) 1 0) 0 (and_from _ _ on inner),
              east_wraps a a_in,
            )
            | inr border ↦ omega (
              arith,
              cond-true {A = ℕ} (s a) (cond (s (w.reverse_dart a)) 0 (onward w a)) (wraps w a) on,
              cond-false {A = ℕ} (s (w.reverse_dart a)) 0 (onward w a) border,
              no_inner a border,
              border_bound a a_in on (cases_eq (w.direction a) 0) (cases_eq (w.direction a) 1) (cases_eq (w.angle a) 1),
            )
          ]
        ]
      where
        wraps_yes : (a : ℕ) → w.direction a < w.angle a → wraps w a ≡ 1
        wraps_yes a less = cond-true {A = ℕ} (ltb (w.direction a) (w.angle a)) 1 0 (lt-ltb (w.direction a) (w.angle a) less)

        east_wraps : (a : ℕ) → a < w.darts → cond (eqb (w.direction a) 0) 1 0 ≤ wraps w a
        east_wraps a a_in =
            elim (cases_eq (w.direction a) 0) [
              | inl e ↦ omega (arith, cond-true {A = ℕ} (eqb (w.direction a) 0) 1 0 (eq-eqb (w.direction a) 0 e), wraps_yes a (omega (arith, e, sound.meeting.some a a_in)))
              | inr ne ↦ omega (arith, cond-false {A = ℕ} (eqb (w.direction a) 0) 1 0 (ne_eqb (w.direction a) 0 ne))
            ]

        no_inner : (a : ℕ) → s (w.reverse_dart a) ≡ false → within a ≡ 0
        no_inner a border = cond-false {A = ℕ} (s a && s (w.reverse_dart a)) (cond (eqb (w.direction a) 0) 1 0) 0 (and_false (s a) (s (w.reverse_dart a)) border)
          where
            and_false : (x y : Bool) → y ≡ false → (x && y) ≡ false
            and_false true y e = e
            and_false false y e = refl

        border_bound : (a : ℕ) → a < w.darts → s a ≡ true → (w.direction a ≡ 0) ⊎ (w.direction a ≢ 0) → (w.direction a ≡ 1) ⊎ (w.direction a ≢ 1)
            → (w.angle a ≡ 1) ⊎ (w.angle a ≢ 1) → onward w a ≤ wraps w a + within (clockwise w a)
        border_bound a a_in on (inl east) north angle =
            omega (arith, wraps_yes a (omega (arith, east, sound.meeting.some a a_in)), small (ltb (w.direction a) 2))
          where
            small : (b : Bool) → cond b 1 0 ≤ 1
            small true = omega arith
            small false = omega arith
        border_bound a a_in on (inr not_east) (inr not_north) angle =
            omega (arith, onward_no (omega (arith, not_east, not_north)))
          where
            onward_no : 2 ≤ w.direction a → onward w a ≡ 0
            onward_no large = elim (test_lt (w.direction a) 2) [
              | inl less ↦ absurd (omega (arith, less.0, large))
              | inr more ↦ more.1
            ]
        border_bound a a_in on (inr not_east) (inl north) (inr wide) =
            omega (arith, wraps_yes a (omega (arith, north, wide, sound.meeting.some a a_in)), small (ltb (w.direction a) 2))
          where
            small : (b : Bool) → cond b 1 0 ≤ 1
            small true = omega arith
            small false = omega arith
        border_bound a a_in on (inr not_east) (inl north) (inl one) =
            let b : ℕ = clockwise w a in
            let n_in = sound.tied.next_in a a_in in
            let b_in : b < w.darts = clockwise_in a a_in in
            let east : w.direction b ≡ 0 = omega (arith, north, one, sound.meeting.turns a a_in, sound.meeting.quarter b b_in) in
            let back : w.reverse_dart b ≡ w.next a = sound.tied.reverse_dart_back (w.next a) n_in in
            let back_on : s (w.reverse_dart b) ≡ true = ap s back ∙ of a a_in ∙ on in
            let here : s b ≡ true = upward b b_in east back_on in
            omega (
              arith,
              small (ltb (w.direction a) 2),
              cond-true {A = ℕ} (s b && s (w.reverse_dart b)) (cond (eqb (w.direction b) 0) 1 0) 0 (and_from _ _ here back_on),
              cond-true {A = ℕ} (eqb (w.direction b) 0) 1 0 (eq-eqb (w.direction b) 0 east),
            )
          where
            small : (b : Bool) → cond b 1 0 ≤ 1
            small true = omega arith
            small false = omega arith

    -- at each vertex one dart at most is counted
    pub counted_once : (u : ℕ) → u < w.vertices → sum_at w.darts w.head u (counted w s) ≤ 1
    counted_once u u_in =
        let n : ℕ = w.darts in
        let all : sum_at n w.head u (λ a. counted w s a + within a) ≤ sum_at n w.head u (λ a. wraps w a + within (clockwise w a)) =
        sum_below-le n (λ a. cond (eqb (w.head a) u) (counted w s a + within a) 0) (λ a. cond (eqb (w.head a) u) (wraps w a + within (clockwise w a)) 0)
        (λ a a_in. choice (eqb (w.head a) u) (counted w s a + within a) (wraps w a + within (clockwise w a)) (bound a a_in)) in
        omega (
          arith,
          all,
          sum_at-add n w.head u (counted w s) within,
          sum_at-add n w.head u (wraps w) (λ a. within (clockwise w a)),
          moved u within,
          wraps_once u u_in,
        )
      where
        choice : (b : Bool) (x y : ℕ) → x ≤ y → cond b x 0 ≤ cond b y 0
        choice true x y less = less
        choice false x y less = omega arith

    -- ---- all edges

    module _ (angles : (a : ℕ) → a < w.darts → (1 ≤ w.angle a) × (w.angle a ≤ 3)) where
      -- one for a corner of the outside at which the walk arrives to the west
      abbrev turn : ℕ → ℕ
      turn a = cond (s a) 0 (cond (eqb (w.direction a) 2 && eqb (w.angle a) 3) 1 0)

      edge : (a : ℕ) → a < w.darts → onward w a * touches w s a + turn a ≤ counted w s a + boxes_off w s a
      edge a a_in =
          elim (cases_Bool (s a)) [
            | inl on ↦ omega (
              arith,
              cond-true {A = ℕ} (s a) (cond (s (w.reverse_dart a)) 0 (onward w a)) (wraps w a) on,
              cond-true {A = ℕ} (s a) 0 (cond (eqb (w.direction a) 2 && eqb (w.angle a) 3) 1 0) on,
              over (onward w a) (s a) (s (w.reverse_dart a)) on,
            )
            | inr off ↦ omega (
              arith,
              cond-false {A = ℕ} (s a) (cond (s (w.reverse_dart a)) 0 (onward w a)) (wraps w a) off,
              cond-false {A = ℕ} (s a) 0 (cond (eqb (w.direction a) 2 && eqb (w.angle a) 3) 1 0) off,
              cond-false {A = ℕ} (s a) 0 (cond (eqb (w.direction a) 1 && eqb (w.angle a) 1) 1 0) off,
              outer (onward w a) (s a) (s (w.reverse_dart a)) off,
              each (w.direction a) (w.angle a) (sound.meeting.quarter a a_in) (angles a a_in).0 (angles a a_in).1,
            )
          ]
        where
          over : (x : ℕ) (b c : Bool) → b ≡ true → x * cond (b && c) 0 1 ≤ cond c 0 x
          over x true true e = omega arith
          over x true false e = omega arith
          over x false c e = absurd (both_ways false refl e)

          outer : (x : ℕ) (b c : Bool) → b ≡ false → x * cond (b && c) 0 1 ≤ x
          outer x true c e = absurd (both_ways true e refl)
          outer x false c e = omega arith

          each : (d g : ℕ) → d < 4 → 1 ≤ g → g ≤ 3
              → cond (ltb d 2) 1 0 + cond (eqb d 2 && eqb g 3) 1 0 ≤ cond (ltb d g) 1 0 + cond (eqb d 1 && eqb g 1) 1 0
          each d zero few some most = absurd (omega (arith, some))
          each d (suc (suc (suc (suc g)))) few some most = absurd (omega (arith, most))
          each zero (suc zero) few some most = omega arith
          each zero (suc (suc zero)) few some most = omega arith
          each zero (suc (suc (suc zero))) few some most = omega arith
          each (suc zero) (suc zero) few some most = omega arith
          each (suc zero) (suc (suc zero)) few some most = omega arith
          each (suc zero) (suc (suc (suc zero))) few some most = omega arith
          each (suc (suc zero)) (suc zero) few some most = omega arith
          each (suc (suc zero)) (suc (suc zero)) few some most = omega arith
          each (suc (suc zero)) (suc (suc (suc zero))) few some most = omega arith
          each (suc (suc (suc zero))) (suc zero) few some most = omega arith
          each (suc (suc (suc zero))) (suc (suc zero)) few some most = omega arith
          each (suc (suc (suc zero))) (suc (suc (suc zero))) few some most = omega arith
          each (suc (suc (suc (suc d)))) (suc zero) few some most = absurd (omega (arith, few))
          each (suc (suc (suc (suc d)))) (suc (suc zero)) few some most = absurd (omega (arith, few))
          each (suc (suc (suc (suc d)))) (suc (suc (suc zero))) few some most = absurd (omega (arith, few))

      -- edges that touch the rest, each counted at both its darts
      twice : sum_below w.darts (touches w s) ≡ 2 * sum_below w.darts (λ a. onward w a * touches w s a)
      twice =
          let n : ℕ = w.darts in
          let one : ℕ → ℕ = λ a. onward w a * touches w s a in
          let both : sum_below n (touches w s) ≡ sum_below n (λ a. one a + one (w.reverse_dart a)) =
          sum_below-same n (touches w s) (λ a. one a + one (w.reverse_dart a)) halves in
          omega (arith, both, sum_below-add n one (λ a. one (w.reverse_dart a)), sum_below-turned n w.reverse_dart one sound.tied.reverse_dart_in sound.tied.reverse_dart_back)
        where
          touch : (a b c : Bool) → b ≡ c → cond {A = ℕ} (a && b) 0 1 ≡ cond (c && a) 0 1
          touch true true true e = refl
          touch true true false e = absurd (both_ways true e refl)
          touch true false true e = absurd (both_ways false refl e)
          touch true false false e = refl
          touch false b true e = refl
          touch false b false e = refl

          same : (a : ℕ) → a < w.darts → touches w s a ≡ touches w s (w.reverse_dart a)
          same a a_in =
              touch (s a) (s (w.reverse_dart a)) (s (w.reverse_dart a)) refl
              ∙ ap (λ (d : ℕ). cond (s (w.reverse_dart a) && s d) 0 1) (sym (sound.tied.reverse_dart_back a a_in))

          one_of : (d e x y : ℕ) → d < 4 → e ≡ (d + 2) % 4 → x ≡ y → x ≡ cond (ltb d 2) 1 0 * x + cond (ltb e 2) 1 0 * y
          one_of zero e x y few is xy = rw is (omega (arith, xy))
          one_of (suc zero) e x y few is xy = rw is (omega (arith, xy))
          one_of (suc (suc zero)) e x y few is xy = rw is (omega (arith, xy))
          one_of (suc (suc (suc zero))) e x y few is xy = rw is (omega (arith, xy))
          one_of (suc (suc (suc (suc d)))) e x y few is xy = absurd (omega (arith, few))

          halves : (a : ℕ) → a < w.darts → touches w s a ≡ onward w a * touches w s a + onward w (w.reverse_dart a) * touches w s (w.reverse_dart a)
          halves a a_in =
              one_of (w.direction a) (w.direction (w.reverse_dart a)) (touches w s a) (touches w s (w.reverse_dart a))
              (sound.meeting.quarter a a_in) (sound.straight a a_in) (same a a_in)

      -- the vertices that are counted, and the boxes off the set, are more than the edges that touch the rest
      pub few_edges : (reached : ℕ → Bool) → ((a : ℕ) → a < w.darts → s a && s (w.reverse_dart a) ≡ false → reached (w.head a) ≡ true)
          → (o : ℕ) → o < w.darts → s o ≡ false → w.direction o ≡ 2 → w.angle o ≡ 3
          → sum_below w.darts (touches w s) + 2 ≤ 2 * sum_below w.vertices (λ u. cond (reached u) 1 0) + 2 * sum_below w.darts (boxes_off w s)
      few_edges reached all o o_in off way wide =
          let n : ℕ = w.darts in
          let edges : sum_below n (λ a. onward w a * touches w s a + turn a) ≤ sum_below n (λ a. counted w s a + boxes_off w s a) =
          sum_below-le n (λ a. onward w a * touches w s a + turn a) (λ a. counted w s a + boxes_off w s a) edge in
          let by_vertex : sum_below w.vertices (λ u. 1 * sum_at n w.head u (counted w s)) ≡ sum_below n (λ a. 1 * counted w s a) =
          exchanged n w.vertices w.head (counted w s) (λ _. 1) sound.meeting.head_in in
          let plain : sum_below n (λ a. 1 * counted w s a) ≡ sum_below n (counted w s) =
          sum_below-same n (λ a. 1 * counted w s a) (counted w s) (λ a a_in. omega arith) in
          let vertices : sum_below w.vertices (λ u. 1 * sum_at n w.head u (counted w s)) ≤ sum_below w.vertices (λ u. cond (reached u) 1 0) =
          sum_below-le w.vertices (λ u. 1 * sum_at n w.head u (counted w s)) (λ u. cond (reached u) 1 0) (λ u u_in. vertex u u_in (cases_Bool (reached u))) in
          let some : turn o ≤ sum_below n turn = sum_below-member n o turn o_in in
          let here : turn o ≡ 1 =
          cond-false {A = ℕ} (s o) 0 (cond (eqb (w.direction o) 2 && eqb (w.angle o) 3) 1 0) off
          ∙ cond-true {A = ℕ} (eqb (w.direction o) 2 && eqb (w.angle o) 3) 1 0 (and_from _ _ (eq-eqb (w.direction o) 2 way) (eq-eqb (w.angle o) 3 wide)) in
          omega (
            arith,
            edges,
            sum_below-add n (λ a. onward w a * touches w s a) turn,
            sum_below-add n (counted w s) (boxes_off w s),
            by_vertex,
            plain,
            vertices,
            some,
            here,
            twice,
          )
        where
          none : (b c : Bool) (x y : ℕ) → (b && c) ≡ true → cond b (cond c 0 x) y ≡ 0
          none true true x y e = refl
          none true false x y e = absurd (both_ways false refl e)
          none false c x y e = absurd (both_ways false refl e)

          vertex : (u : ℕ) → u < w.vertices → (reached u ≡ true) ⊎ (reached u ≡ false) → 1 * sum_at w.darts w.head u (counted w s) ≤ cond (reached u) 1 0
          vertex u u_in (inl r) = omega (arith, counted_once u u_in, cond-true {A = ℕ} (reached u) 1 0 r)
          vertex u u_in (inr r) =
              let nothing : sum_at w.darts w.head u (counted w s) ≡ 0 =
              sum_below-none w.darts (λ a. cond (eqb (w.head a) u) (counted w s a) 0) (λ a a_in. elim (cases_eq (w.head a) u) [
                | inr away ↦ cond-false {A = ℕ} (eqb (w.head a) u) (counted w s a) 0 (ne_eqb (w.head a) u away)
                | inl at ↦
                    cond-true {A = ℕ} (eqb (w.head a) u) (counted w s a) 0 (eq-eqb (w.head a) u at)
                    ∙ elim (cases_Bool (s a && s (w.reverse_dart a))) [
                      | inl both ↦ none (s a) (s (w.reverse_dart a)) (onward w a) (wraps w a) both
                      | inr one ↦ absurd (both_ways (reached u) r (ap reached (sym at) ∙ all a a_in one))
                    ]
              ]) in
              omega (arith, nothing)
