-- The four corners of a face, told by the directions in which the walk arrives at them.
use Rattle.std.proofs.Common.{◌≡◌, ℕ, zero, suc, ◌+◌, ◌%◌, ◌<◌, ◌⊎◌, ◌∙◌, [], ◌∷◌, arith, subst, sym, ap, refl, inl, inr}
use Rattle.std.proofs.lemmas.Bool.{cases_eq}
use Rattle.dissect.specs.DartMaps.{DartMap, IsSound}
use Rattle.dissect.specs.Faces.{In, IsCorner, Stretches, HasFourCorners, ReachesCorners}
use Rattle.dissect.proofs.Stretching.{Stretches-one, Stretches-inside, Stretches-corner}
use Rattle.dissect.specs.Boxes.{HasBoxFaces}
use Rattle.drawing_laws.proofs.Sides.{IsOn, on_itself, stretch_keeps, stretch_way}

-- the walk arrives at corner k in the direction k, with this angle; the corner before it is `back` directions further, or 4 less
pub record IsRound (w : DartMap) (back angle : ℕ) (corner : ℕ → ℕ) : Type 0 where
  pub inside : (k : ℕ) → k < 4 → corner k < w.darts
  pub ways : (k : ℕ) → k < 4 → w.direction (corner k) ≡ k
  pub angles : (k : ℕ) → k < 4 → w.angle (corner k) ≡ angle
  pub sides : (k : ℕ) → k < 4 → Stretches w (corner ((k + back) % 4)) (corner k)

-- each face is a box, round which the walk turns left, but for one, round which it turns right
pub record AreFaces (w : DartMap) : Type 0 where
  pub around : ℕ → ℕ
  pub outside : IsRound w 1 3 around
  pub ends : (a : ℕ) → a < w.darts → (c : ℕ) × (c < w.darts) × IsCorner w c × IsOn w a c
  pub each : (a : ℕ) → a < w.darts → IsCorner w a
      → ((corner : ℕ → ℕ) × IsRound w 3 1 corner × (corner (w.direction a) ≡ a)) ⊎ (around (w.direction a) ≡ a)

abbrev four_of : ℕ → ℕ → ℕ → ℕ → ℕ → ℕ
four_of a b c d zero = a
four_of a b c d (suc zero) = b
four_of a b c d (suc (suc zero)) = c
four_of a b c d (suc (suc (suc k))) = d

-- the corners of a box that arrive in the directions 0 to 3, where a arrives to the north
abbrev pub corners_of : (w : DartMap) (a : ℕ) → HasFourCorners w 1 a → ℕ → ℕ
corners_of w a r = four_of r.fourth a r.second r.third

pub by_four : (P : ℕ → Type 0) → P 0 → P 1 → P 2 → P 3 → (k : ℕ) → k < 4 → P k
by_four P a b c d zero few = a
by_four P a b c d (suc zero) few = b
by_four P a b c d (suc (suc zero)) few = c
by_four P a b c d (suc (suc (suc zero))) few = d
by_four P a b c d (suc (suc (suc (suc k)))) few = absurd (omega (arith, few))

-- the same face from its next corner on
abbrev rect_next : (w : DartMap) (g a : ℕ) (r : HasFourCorners w g a) → HasFourCorners w g r.second
rect_next w g a r = record {
  second = r.third;
  third = r.fourth;
  fourth = a;
  to_second = r.to_third;
  to_third = r.to_fourth;
  to_fourth = r.back;
  back = r.to_second;
  angle_first = r.angle_second;
  angle_second = r.angle_third;
  angle_third = r.angle_fourth;
  angle_fourth = r.angle_first;
}

in_next : (o a b c d : ℕ) → In o (a ∷ b ∷ c ∷ d ∷ []) → In o (b ∷ c ∷ d ∷ a ∷ [])
in_next o a b c d (inl at) = inr (inr (inr (inl at)))
in_next o a b c d (inr (inl at)) = inl at
in_next o a b c d (inr (inr (inl at))) = inr (inl at)
in_next o a b c d (inr (inr (inr (inl at)))) = inr (inr (inl at))
in_next o a b c d (inr (inr (inr (inr none)))) = absurd none

-- the corners of the outside, a among them, with each of four its place
abbrev HoldsAll : (w : DartMap) → ℕ → (a : ℕ) → HasFourCorners w 3 a → Type 0
HoldsAll w d a r =
    (corner : ℕ → ℕ) × IsRound w 1 3 corner × (corner d ≡ a)
    × ((o : ℕ) → In o (a ∷ r.second ∷ r.third ∷ r.fourth ∷ []) → (k : ℕ) × (k < 4) × (corner k ≡ o))

module _ (w : DartMap) (sound : IsSound w) where
  seconds : (g a : ℕ) → a < w.darts → (r : HasFourCorners w g a) → (r.second < w.darts) × ((w.direction r.second + 2 + g) % 4 ≡ w.direction a)
  seconds g a a_in r = (
    Stretches-inside w a r.second sound.tied a_in r.to_second,
    (let way = stretch_way w sound a r.second a_in r.to_second in omega (arith, way, r.angle_first)),
  )

  -- ---- a box

  pub left_round : (a : ℕ) → a < w.darts → (r : HasFourCorners w 1 a) → w.direction a ≡ 1 → IsRound w 3 1 (corners_of w a r)
  left_round a a_in r way =
      let r1 = rect_next w 1 a r in
      let r2 = rect_next w 1 r.second r1 in
      let two = seconds 1 a a_in r in
      let three = seconds 1 r.second two.0 r1 in
      let four = seconds 1 r.third three.0 r2 in
      let q = sound.meeting.quarter in
      record {
        inside = by_four (λ k. four_of r.fourth a r.second r.third k < w.darts) four.0 a_in two.0 three.0;
        ways = by_four (λ k. w.direction (four_of r.fourth a r.second r.third k) ≡ k)
            (omega (arith, way, two.1, three.1, four.1, q r.second two.0, q r.third three.0, q r.fourth four.0))
            way
            (omega (arith, way, two.1, q r.second two.0))
            (omega (arith, way, two.1, three.1, q r.second two.0, q r.third three.0));
        angles = by_four (λ k. w.angle (four_of r.fourth a r.second r.third k) ≡ 1) r.angle_fourth r.angle_first r.angle_second r.angle_third;
        sides = by_four (λ k. Stretches w (four_of r.fourth a r.second r.third ((k + 3) % 4)) (four_of r.fourth a r.second r.third k))
            r.to_fourth r.back r.to_second r.to_third;
      }

  pub box_round : (d a : ℕ) → a < w.darts → HasFourCorners w 1 a → w.direction a ≡ d → (corner : ℕ → ℕ) × IsRound w 3 1 corner × (corner d ≡ a)
  box_round zero a a_in r way =
      let r1 = rect_next w 1 a r in
      let two = seconds 1 a a_in r in
      (four_of a r.second r.third r.fourth, left_round r.second two.0 r1 (omega (arith, two.1, way, sound.meeting.quarter r.second two.0)), refl)
  box_round (suc zero) a a_in r way = (four_of r.fourth a r.second r.third, left_round a a_in r way, refl)
  box_round (suc (suc zero)) a a_in r way =
      let r1 = rect_next w 1 a r in
      let r2 = rect_next w 1 r.second r1 in
      let r3 = rect_next w 1 r.third r2 in
      let two = seconds 1 a a_in r in
      let three = seconds 1 r.second two.0 r1 in
      let four = seconds 1 r.third three.0 r2 in
      let q = sound.meeting.quarter in (
        four_of r.third r.fourth a r.second,
        left_round r.fourth four.0 r3 (omega (arith, way, two.1, three.1, four.1, q r.second two.0, q r.third three.0, q r.fourth four.0)),
        refl,
      )
  box_round (suc (suc (suc zero))) a a_in r way =
      let r1 = rect_next w 1 a r in
      let r2 = rect_next w 1 r.second r1 in
      let two = seconds 1 a a_in r in
      let three = seconds 1 r.second two.0 r1 in
      let q = sound.meeting.quarter in (
        four_of r.second r.third r.fourth a,
        left_round r.third three.0 r2 (omega (arith, way, two.1, three.1, q r.second two.0, q r.third three.0)),
        refl,
      )
  box_round (suc (suc (suc (suc d)))) a a_in r way = absurd (omega (arith, way, sound.meeting.quarter a a_in))

  -- ---- the outside

  right_round : (a : ℕ) → a < w.darts → (r : HasFourCorners w 3 a) → w.direction a ≡ 1 → IsRound w 1 3 (four_of r.second a r.fourth r.third)
  right_round a a_in r way =
      let r1 = rect_next w 3 a r in
      let r2 = rect_next w 3 r.second r1 in
      let two = seconds 3 a a_in r in
      let three = seconds 3 r.second two.0 r1 in
      let four = seconds 3 r.third three.0 r2 in
      let q = sound.meeting.quarter in
      record {
        inside = by_four (λ k. four_of r.second a r.fourth r.third k < w.darts) two.0 a_in four.0 three.0;
        ways = by_four (λ k. w.direction (four_of r.second a r.fourth r.third k) ≡ k)
            (omega (arith, way, two.1, q r.second two.0))
            way
            (omega (arith, way, two.1, three.1, four.1, q r.second two.0, q r.third three.0, q r.fourth four.0))
            (omega (arith, way, two.1, three.1, q r.second two.0, q r.third three.0));
        angles = by_four (λ k. w.angle (four_of r.second a r.fourth r.third k) ≡ 3) r.angle_second r.angle_first r.angle_fourth r.angle_third;
        sides = by_four (λ k. Stretches w (four_of r.second a r.fourth r.third ((k + 1) % 4)) (four_of r.second a r.fourth r.third k))
            r.to_second r.back r.to_fourth r.to_third;
      }

  right_holds : (a : ℕ) (r : HasFourCorners w 3 a) (o : ℕ) → In o (a ∷ r.second ∷ r.third ∷ r.fourth ∷ [])
      → (k : ℕ) × (k < 4) × (four_of r.second a r.fourth r.third k ≡ o)
  right_holds a r o (inl at) = (1, omega arith, sym at)
  right_holds a r o (inr (inl at)) = (0, omega arith, sym at)
  right_holds a r o (inr (inr (inl at))) = (3, omega arith, sym at)
  right_holds a r o (inr (inr (inr (inl at)))) = (2, omega arith, sym at)
  right_holds a r o (inr (inr (inr (inr none)))) = absurd none

  outside_round : (d a : ℕ) → a < w.darts → (r : HasFourCorners w 3 a) → w.direction a ≡ d → HoldsAll w d a r
  outside_round zero a a_in r way =
      let r1 = rect_next w 3 a r in
      let r2 = rect_next w 3 r.second r1 in
      let r3 = rect_next w 3 r.third r2 in
      let two = seconds 3 a a_in r in
      let three = seconds 3 r.second two.0 r1 in
      let four = seconds 3 r.third three.0 r2 in
      let q = sound.meeting.quarter in (
        four_of a r.fourth r.third r.second,
        right_round r.fourth four.0 r3 (omega (arith, way, two.1, three.1, four.1, q r.second two.0, q r.third three.0, q r.fourth four.0)),
        refl,
        λ o here. right_holds r.fourth r3 o (in_next o r.third r.fourth a r.second (in_next o r.second r.third r.fourth a (in_next o a r.second r.third r.fourth here))),
      )
  outside_round (suc zero) a a_in r way = (four_of r.second a r.fourth r.third, right_round a a_in r way, refl, right_holds a r)
  outside_round (suc (suc zero)) a a_in r way =
      let r1 = rect_next w 3 a r in
      let two = seconds 3 a a_in r in (
        four_of r.third r.second a r.fourth,
        right_round r.second two.0 r1 (omega (arith, two.1, way, sound.meeting.quarter r.second two.0)),
        refl,
        λ o here. right_holds r.second r1 o (in_next o a r.second r.third r.fourth here),
      )
  outside_round (suc (suc (suc zero))) a a_in r way =
      let r1 = rect_next w 3 a r in
      let r2 = rect_next w 3 r.second r1 in
      let two = seconds 3 a a_in r in
      let three = seconds 3 r.second two.0 r1 in
      let q = sound.meeting.quarter in (
        four_of r.fourth r.third r.second a,
        right_round r.third three.0 r2 (omega (arith, way, two.1, three.1, q r.second two.0, q r.third three.0)),
        refl,
        λ o here. right_holds r.third r2 o (in_next o r.second r.third r.fourth a (in_next o a r.second r.third r.fourth here)),
      )
  outside_round (suc (suc (suc (suc d)))) a a_in r way = absurd (omega (arith, way, sound.meeting.quarter a a_in))

-- ---- two of them with a corner in common are one

round_step : (w : DartMap) (back angle k m : ℕ) (one two : ℕ → ℕ) → IsRound w back angle one → IsRound w back angle two → m < 4
    → (m + back) % 4 ≡ k → one k ≡ two k → one m ≡ two m
round_step w back angle k m one two a b few is same =
    let at : one ((m + back) % 4) ≡ two ((m + back) % 4) = ap one is ∙ same ∙ sym (ap two is) in
    Stretches-one w (two ((m + back) % 4)) (one m) (two m) (subst (λ (c : ℕ). Stretches w c (one m)) at (a.sides m few)) (b.sides m few)

pub box_same : (w : DartMap) (one two : ℕ → ℕ) → IsRound w 3 1 one → IsRound w 3 1 two → (k m : ℕ) → k < 4 → m < 4 → one k ≡ two k → one m ≡ two m
box_same w one two a b k m k_few m_few same =
    let from_three : one 3 ≡ two 3 → one 0 ≡ two 0 = λ s. round_step w 3 1 3 0 one two a b (omega arith) refl s in
    let from_two : one 2 ≡ two 2 → one 0 ≡ two 0 = λ s. from_three (round_step w 3 1 2 3 one two a b (omega arith) refl s) in
    let from_one : one 1 ≡ two 1 → one 0 ≡ two 0 = λ s. from_two (round_step w 3 1 1 2 one two a b (omega arith) refl s) in
    let zero_same : one k ≡ two k → one 0 ≡ two 0 =
    by_four (λ k. one k ≡ two k → one 0 ≡ two 0) (λ s. s) from_one from_two from_three k k_few in
    let z : one 0 ≡ two 0 = zero_same same in
    let o : one 1 ≡ two 1 = round_step w 3 1 0 1 one two a b (omega arith) refl z in
    let t : one 2 ≡ two 2 = round_step w 3 1 1 2 one two a b (omega arith) refl o in
    by_four (λ m. one m ≡ two m) z o t (round_step w 3 1 2 3 one two a b (omega arith) refl t) m m_few

outside_same : (w : DartMap) (one two : ℕ → ℕ) → IsRound w 1 3 one → IsRound w 1 3 two → (k m : ℕ) → k < 4 → m < 4 → one k ≡ two k → one m ≡ two m
outside_same w one two a b k m k_few m_few same =
    let from_one : one 1 ≡ two 1 → one 0 ≡ two 0 = λ s. round_step w 1 3 1 0 one two a b (omega arith) refl s in
    let from_two : one 2 ≡ two 2 → one 0 ≡ two 0 = λ s. from_one (round_step w 1 3 2 1 one two a b (omega arith) refl s) in
    let from_three : one 3 ≡ two 3 → one 0 ≡ two 0 = λ s. from_two (round_step w 1 3 3 2 one two a b (omega arith) refl s) in
    let zero_same : one k ≡ two k → one 0 ≡ two 0 =
    by_four (λ k. one k ≡ two k → one 0 ≡ two 0) (λ s. s) from_one from_two from_three k k_few in
    let z : one 0 ≡ two 0 = zero_same same in
    let h : one 3 ≡ two 3 = round_step w 1 3 0 3 one two a b (omega arith) refl z in
    let t : one 2 ≡ two 2 = round_step w 1 3 3 2 one two a b (omega arith) refl h in
    by_four (λ m. one m ≡ two m) z (round_step w 1 3 2 1 one two a b (omega arith) refl t) t h m m_few

-- ---- faces that are cut up

pub end_of : (w : DartMap) → IsSound w → ReachesCorners w → (a : ℕ) → a < w.darts → (c : ℕ) × (c < w.darts) × IsCorner w c × IsOn w a c
end_of w sound reaches a a_in =
    elim (cases_eq (w.angle a) 2) [
      | inl straight ↦
          let (c, stretch) = reaches a a_in in (
            c,
            Stretches-inside w a c sound.tied a_in stretch,
            Stretches-corner w a c stretch,
            record { places = suc stretch.places; keeps = stretch_keeps w stretch.places a c straight stretch.stretch },
          )
      | inr turning ↦ (a, a_in, turning, on_itself w a)
    ]

pub are_faces : (w : DartMap) → IsSound w → HasBoxFaces w → AreFaces w
are_faces w sound cut =
    let whole = outside_round w sound (w.direction cut.outside) cut.outside cut.outside_in cut.around refl in
    record {
      around = whole.0;
      outside = whole.1;
      ends = end_of w sound cut.reaches;
      each = λ a a_in corner. elim (cut.corners a a_in corner) [
        | inl box ↦ inl (box_round w sound (w.direction a) a a_in box refl)
        | inr out ↦
            let here = outside_round w sound (w.direction a) a a_in out.four refl in
            let (k, few, at) = here.3 cut.outside out.holds in
            let q = sound.meeting.quarter in
            let way : k ≡ w.direction cut.outside = sym (here.1.ways k few) ∙ ap w.direction at in
            let meet : whole.0 k ≡ here.0 k = ap whole.0 way ∙ whole.2 ∙ sym at in
            inr (outside_same w whole.0 here.0 whole.1 here.1 k (w.direction a) few (q a a_in) meet ∙ here.2)
      ];
    }
