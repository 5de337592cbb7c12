-- The darts to the north that cross one row of cells stand in one sequence, box beside box, from west to east. So the boxes of the row
-- lie apart, and leave no gap.
use Rattle.std.proofs.Common.{◌≡◌, ◌≢◌, ℕ, zero, suc, ◌+◌, ◌-◌, ◌%◌, ◌<◌, ◌≤◌, ◌∙◌, arith, subst, sym, ap, inl, inr}
use Rattle.std.proofs.lemmas.Bool.{cases_lt}
use Rattle.dissect.specs.DartMaps.{DartMap, IsSound}
use Rattle.dissect.specs.Faces.{IsCorner}
use Rattle.dissect.specs.Monotone.{IsMonotone, tail}
use Rattle.drawing_laws.proofs.Sides.{Goes, Spans, IsOn, on_one, keeps_way, tail_back, dart_goes, stretch_goes, side_spans, side_wide, side_once, side_leads}
use Rattle.drawing_laws.proofs.Rounds.{IsRound, AreFaces, box_same}

-- the dart a goes to the north through row j
pub record Crosses (w : DartMap) (y : ℕ → ℕ) (j a : ℕ) : Type 0 where
  pub inside : a < w.darts
  pub north : w.direction a ≡ 1
  pub low : y (tail w a) ≤ j
  pub high : j < y (w.head a)

-- a is on the right side of a box, and b on its left side, walked to the north
pub record IsStep (w : DartMap) (a b : ℕ) : Type 0 where
  pub corner : ℕ → ℕ
  pub box : IsRound w 3 1 corner
  pub right : IsOn w a (corner 1)
  pub left : IsOn w (w.reverse_dart b) (corner 3)

-- this many boxes lie between the outside and the dart a, which crosses row j
abbrev pub DartsAcross : (w : DartMap) (y around : ℕ → ℕ) → ℕ → ℕ → ℕ → Type 0
DartsAcross w y around j zero a = Crosses w y j a × IsOn w a (around 1)
DartsAcross w y around j (suc k) a = (b : ℕ) × Crosses w y j a × IsStep w a b × DartsAcross w y around j k b

-- the box with these corners covers the cell
pub record Covers (w : DartMap) (x y : ℕ → ℕ) (corner : ℕ → ℕ) (i j : ℕ) : Type 0 where
  pub left : x (w.head (corner 3)) ≤ i
  pub right : i < x (w.head (corner 1))
  pub below : y (w.head (corner 0)) ≤ j
  pub above : j < y (w.head (corner 1))

-- the coordinates of a box: its sides along the axes
pub record IsUpright (w : DartMap) (x y : ℕ → ℕ) (corner : ℕ → ℕ) : Type 0 where
  pub wide : x (w.head (corner 3)) < x (w.head (corner 1))
  pub high : y (w.head (corner 0)) < y (w.head (corner 1))
  pub right : x (w.head (corner 0)) ≡ x (w.head (corner 1))
  pub left : x (w.head (corner 2)) ≡ x (w.head (corner 3))
  pub bottom : y (w.head (corner 3)) ≡ y (w.head (corner 0))
  pub top : y (w.head (corner 1)) ≡ y (w.head (corner 2))

module _ (w : DartMap) (sound : IsSound w) (x y : ℕ → ℕ) (monotone : IsMonotone w x y) where
  -- ---- one face

  pub round_corner : (back angle : ℕ) (corner : ℕ → ℕ) → IsRound w back angle corner → angle ≢ 2 → (k : ℕ) → k < 4 → IsCorner w (corner k)
  round_corner back angle corner round turning k few straight = turning (sym (round.angles k few) ∙ straight)

  -- side k goes in the direction k
  pub round_goes : (back angle : ℕ) (corner : ℕ → ℕ) → IsRound w back angle corner → (k : ℕ) → k < 4
      → Goes k x y (w.head (corner ((k + back) % 4))) (w.head (corner k))
  round_goes back angle corner round k few =
      stretch_goes w sound x y monotone k (corner ((k + back) % 4)) (corner k)
      (round.inside ((k + back) % 4) (omega arith)) (round.ways k few) (round.sides k few)

  pub box_upright : (corner : ℕ → ℕ) → IsRound w 3 1 corner → IsUpright w x y corner
  box_upright corner round =
      let south : Goes 0 x y (w.head (corner 3)) (w.head (corner 0)) = round_goes 3 1 corner round 0 (omega arith) in
      let east : Goes 1 x y (w.head (corner 0)) (w.head (corner 1)) = round_goes 3 1 corner round 1 (omega arith) in
      let north : Goes 2 x y (w.head (corner 1)) (w.head (corner 2)) = round_goes 3 1 corner round 2 (omega arith) in
      let west : Goes 3 x y (w.head (corner 2)) (w.head (corner 3)) = round_goes 3 1 corner round 3 (omega arith) in
      record {
        wide = omega (arith, south.0, east.1);
        high = east.0;
        right = east.1;
        left = west.1;
        bottom = south.1;
        top = north.1;
      }

  -- a dart on side k of a face
  pub on_way : (back angle : ℕ) (corner : ℕ → ℕ) → IsRound w back angle corner → (k a : ℕ) → k < 4 → a < w.darts → IsOn w a (corner k) → w.direction a ≡ k
  on_way back angle corner round k a few a_in on = keeps_way w sound on.places a (corner k) a_in on.keeps ∙ round.ways k few

  -- to the north on a box's right side, its coordinate is that of the side
  north_line : (corner : ℕ → ℕ) (back angle a : ℕ) → IsRound w back angle corner → a < w.darts → IsOn w a (corner 1) → x (w.head a) ≡ x (w.head (corner 1))
  north_line corner back angle a round a_in on = (side_leads w sound x y monotone 1 a (corner 1) a_in (round.ways 1 (omega arith)) on).1

  -- ---- from dart to dart

  -- a box that spans the row has a dart on its right side and one on its left side there
  pub right_dart : (corner : ℕ → ℕ) (j : ℕ) → IsRound w 3 1 corner → y (w.head (corner 0)) ≤ j → j < y (w.head (corner 1))
      → (a : ℕ) × Crosses w y j a × IsOn w a (corner 1)
  right_dart corner j round low high =
      let spans : Spans 1 x y (j + 1) (w.head (corner 0)) (w.head (corner 1)) = (omega (arith, low), omega (arith, high)) in
      let (a, a_in, on, passes) =
      side_spans w sound x y monotone 1 (corner 0) (corner 1) (j + 1) (round.inside 0 (omega arith)) (round.ways 1 (omega arith)) (round.sides 1 (omega arith)) spans in (
        a,
        record { inside = a_in; north = on_way 3 1 corner round 1 a (omega arith) a_in on; low = omega (arith, passes.0); high = omega (arith, passes.1) },
        on,
      )

  -- a dart to the south, walked back
  pub back_crosses : (j s : ℕ) → s < w.darts → w.direction s ≡ 3 → y (w.head s) ≤ j → j < y (tail w s) → Crosses w y j (w.reverse_dart s)
  back_crosses j s s_in way low high = record {
    inside = sound.tied.reverse_dart_in s s_in;
    north = omega (arith, sound.straight s s_in, way);
    low = omega (arith, low, ap y (tail_back w sound x y monotone s s_in));
    high = high;
  }

  pub left_dart : (corner : ℕ → ℕ) (j : ℕ) → IsRound w 3 1 corner → y (w.head (corner 0)) ≤ j → j < y (w.head (corner 1))
      → (b : ℕ) × Crosses w y j b × IsOn w (w.reverse_dart b) (corner 3) × (x (w.head b) ≡ x (w.head (corner 3)))
  left_dart corner j round low high =
      let up = box_upright corner round in
      let spans : Spans 3 x y j (w.head (corner 2)) (w.head (corner 3)) = (omega (arith, low, up.bottom), omega (arith, high, up.top)) in
      let (s, s_in, on, passes) =
      side_spans w sound x y monotone 3 (corner 2) (corner 3) j (round.inside 2 (omega arith)) (round.ways 3 (omega arith)) (round.sides 3 (omega arith)) spans in
      let way = on_way 3 1 corner round 3 s (omega arith) s_in on in
      let line = (side_leads w sound x y monotone 3 s (corner 3) s_in (round.ways 3 (omega arith)) on).1 in
      let level = (dart_goes w sound x y monotone 3 s s_in way).1 in (
        w.reverse_dart s,
        back_crosses j s s_in way passes.0 passes.1,
        subst (λ (a : ℕ). IsOn w a (corner 3)) (sym (sound.tied.reverse_dart_back s s_in)) on,
        level ∙ line,
      )

  -- where it is known that a dart on the right side crosses the row, the box spans it
  pub right_rows : (corner : ℕ → ℕ) (j a : ℕ) → IsRound w 3 1 corner → Crosses w y j a → IsOn w a (corner 1)
      → (y (w.head (corner 0)) ≤ j) × (j < y (w.head (corner 1)))
  right_rows corner j a round crosses on =
      let wide = side_wide w sound x y monotone 1 (corner 0) a (corner 1) (j + 1) (round.inside 0 (omega arith)) crosses.inside
      (round_corner 3 1 corner round (λ e. omega (arith, e)) 0 (omega arith)) (round.ways 1 (omega arith)) (round.sides 1 (omega arith)) on
      (omega (arith, crosses.low), omega (arith, crosses.high)) in
      (omega (arith, wide.0), omega (arith, wide.1))

  -- two darts that cross the row on one side to the north are one
  pub crossing_once : (back angle : ℕ) (corner : ℕ → ℕ) (j a b : ℕ) → IsRound w back angle corner → angle ≢ 2 → Crosses w y j a → Crosses w y j b
      → IsOn w a (corner 1) → IsOn w b (corner 1) → a ≡ b
  crossing_once back angle corner j a b round turning one two on_a on_b =
      side_once w sound x y monotone 1 a b (corner 1) (j + 1) one.inside two.inside (round_corner back angle corner round turning 1 (omega arith))
      (round.ways 1 (omega arith)) on_a on_b (omega (arith, one.low), omega (arith, one.high)) (omega (arith, two.low), omega (arith, two.high))

  -- a step leads to the west
  pub step_west : (j a b : ℕ) → Crosses w y j a → Crosses w y j b → IsStep w a b → x (w.head b) < x (w.head a)
  step_west j a b one two step =
      let corner = step.corner in
      let up = box_upright corner step.box in
      let s : ℕ = w.reverse_dart b in
      let s_in = sound.tied.reverse_dart_in b two.inside in
      let line = (side_leads w sound x y monotone 3 s (corner 3) s_in (step.box.ways 3 (omega arith)) step.left).1 in
      let level : x (tail w b) ≡ x (w.head b) = (dart_goes w sound x y monotone 1 b two.inside two.north).1 in
      omega (arith, up.wide, line, level, north_line corner 3 1 a step.box one.inside step.right)

  -- and no two steps lead to one dart
  step_from_one : (j a c b : ℕ) → Crosses w y j a → Crosses w y j c → IsStep w a b → IsStep w c b → a ≡ c
  step_from_one j a c b one two first second =
      let left : first.corner 3 ≡ second.corner 3 =
      on_one w (w.reverse_dart b) (first.corner 3) (second.corner 3)
      (round_corner 3 1 first.corner first.box (λ e. omega (arith, e)) 3 (omega arith)) (round_corner 3 1 second.corner second.box (λ e. omega (arith, e)) 3 (omega arith))
      first.left second.left in
      let right : first.corner 1 ≡ second.corner 1 =
      box_same w first.corner second.corner first.box second.box 3 1 (omega arith) (omega arith) left in
      crossing_once 3 1 second.corner j a c second.box (λ e. omega (arith, e)) one two (subst (λ (k : ℕ). IsOn w a k) right first.right) second.right

  -- ---- sequences of darts

  module _ (faces : AreFaces w) where
    pub chain_crosses : (j k a : ℕ) → DartsAcross w y faces.around j k a → Crosses w y j a
    chain_crosses j zero a chain = chain.0
    chain_crosses j (suc k) a (b, crosses, step, rest) = crosses

    -- the darts of one length are one
    pub chain_one : (j k a b : ℕ) → DartsAcross w y faces.around j k a → DartsAcross w y faces.around j k b → a ≡ b
    chain_one j zero a b one two = crossing_once 1 3 faces.around j a b faces.outside (λ e. omega (arith, e)) one.0 two.0 one.1 two.1
    chain_one j (suc k) a c (b, crosses, step, rest) (d, crosses', step', rest') =
        let same : b ≡ d = chain_one j k b d rest rest' in
        step_from_one j a c d crosses crosses' (subst (λ (e : ℕ). IsStep w a e) same step) step'

    -- a longer sequence ends further to the east
    pub chain_east : (j k d a b : ℕ) → DartsAcross w y faces.around j k a → DartsAcross w y faces.around j (k + d) b → x (w.head a) ≤ x (w.head b)
    chain_east j k zero a b one two =
        let same : k + zero ≡ k = omega arith in
        let e : a ≡ b = chain_one j k a b one (subst (λ (n : ℕ). DartsAcross w y faces.around j n b) same two) in
        omega (arith, ap (λ (c : ℕ). x (w.head c)) e)
    chain_east j k (suc d) a b one two =
        let more : k + suc d ≡ suc (k + d) = omega arith in
        let (c, crosses, step, rest) = subst (λ (n : ℕ). DartsAcross w y faces.around j n b) more two in
        let less = step_west j b c crosses (chain_crosses j (k + d) c rest) step in
        omega (arith, less, chain_east j k d a c one rest)

    -- from each dart a sequence leads to the outside
    pub chain_of : (j n a : ℕ) → x (w.head a) < n → Crosses w y j a → (k : ℕ) × DartsAcross w y faces.around j k a
    chain_of j zero a less crosses = absurd (omega (arith, less))
    chain_of j (suc n) a less crosses =
        let (c, c_in, corner, on) = faces.ends a crosses.inside in
        let way : w.direction c ≡ 1 = sym (keeps_way w sound on.places a c crosses.inside on.keeps) ∙ crosses.north in
        elim (faces.each c c_in corner) [
          | inl (box, round, at) ↦
              let right : IsOn w a (box 1) = subst (λ (e : ℕ). IsOn w a e) (sym (ap box (sym way) ∙ at)) on in
              let rows = right_rows box j a round crosses right in
              let (b, further, left, line) = left_dart box j round rows.0 rows.1 in
              let step : IsStep w a b = record { corner = box; box = round; right = right; left = left } in
              let west = step_west j a b crosses further step in
              let (k, chain) = chain_of j n b (omega (arith, west, less)) further in
              (suc k, (b, crosses, step, chain))
          | inr at ↦ (0, (crosses, subst (λ (e : ℕ). IsOn w a e) (sym (ap faces.around (sym way) ∙ at)) on))
        ]

    -- ---- cells

    -- what covers a cell stands between two darts of the row
    pub cover_step : (corner : ℕ → ℕ) (i j : ℕ) → IsRound w 3 1 corner → Covers w x y corner i j
        → (a b : ℕ) × Crosses w y j a × IsOn w a (corner 1) × Crosses w y j b × IsStep w a b × (i < x (w.head a)) × (x (w.head b) ≤ i)
        × IsOn w (w.reverse_dart b) (corner 3)
    cover_step corner i j round covers =
        let (a, crosses, right) = right_dart corner j round covers.below covers.above in
        let (b, further, left, line) = left_dart corner j round covers.below covers.above in (
          a,
          b,
          crosses,
          right,
          further,
          record { corner = corner; box = round; right = right; left = left },
          omega (arith, covers.right, north_line corner 3 1 a round crosses.inside right),
          omega (arith, covers.left, line),
          left,
        )

    -- a dart to the west of the cell has no longer a sequence than the left side of a box that covers it
    pub chain_within : (i j k m e c b : ℕ) → Crosses w y j c → IsStep w c b → i < x (w.head c) → DartsAcross w y faces.around j m b
        → DartsAcross w y faces.around j k e → x (w.head e) ≤ i → k ≤ m
    chain_within i j k m e c b crosses step right near far west =
        elim (cases_lt m k) [
          | inl less ↦
              let more : k ≡ suc m + (k - suc m) = omega (arith, less) in
              let east = chain_east j (suc m) (k - suc m) c e (b, crosses, step, near) (subst (λ (n : ℕ). DartsAcross w y faces.around j n e) more far) in
              absurd (omega (arith, east, right, west))
          | inr few ↦ omega (arith, few)
        ]

    -- so two boxes that cover it have one right side there
    step_one : (i j m n a b c d : ℕ) → Crosses w y j a → IsStep w a b → i < x (w.head a) → x (w.head b) ≤ i → DartsAcross w y faces.around j m b
        → Crosses w y j c → IsStep w c d → i < x (w.head c) → x (w.head d) ≤ i → DartsAcross w y faces.around j n d → a ≡ c
    step_one i j m n a b c d a_crosses first a_right b_left near c_crosses second c_right d_left far =
        let one = chain_within i j m n b c d c_crosses second c_right far near b_left in
        let two = chain_within i j n m d a b a_crosses first a_right near far d_left in
        let size : m ≡ n = omega (arith, one, two) in
        let same : b ≡ d = chain_one j n b d (subst (λ (k : ℕ). DartsAcross w y faces.around j k b) size near) far in
        step_from_one j a c d a_crosses c_crosses (subst (λ (e : ℕ). IsStep w a e) same first) second

    -- no two boxes cover one cell
    pub cover_one : (one two : ℕ → ℕ) (i j : ℕ) → IsRound w 3 1 one → IsRound w 3 1 two → Covers w x y one i j → Covers w x y two i j
        → (k : ℕ) → k < 4 → one k ≡ two k
    cover_one one two i j first second covers covers' k few =
        let (a, b, a_crosses, a_on, b_crosses, a_step, a_right, b_left, left) = cover_step one i j first covers in
        let (c, d, c_crosses, c_on, d_crosses, c_step, c_right, d_left, left') = cover_step two i j second covers' in
        let (m, near) = chain_of j (x (w.head b) + 1) b (omega arith) b_crosses in
        let (n, far) = chain_of j (x (w.head d) + 1) d (omega arith) d_crosses in
        let at : a ≡ c = step_one i j m n a b c d a_crosses a_step a_right b_left near c_crosses c_step c_right d_left far in
        let corner : one 1 ≡ two 1 =
        on_one w a (one 1) (two 1) (round_corner 3 1 one first (λ e. omega (arith, e)) 1 (omega arith)) (round_corner 3 1 two second (λ e. omega (arith, e)) 1 (omega arith))
        a_on (subst (λ (e : ℕ). IsOn w e (two 1)) (sym at) c_on) in
        box_same w one two first second 1 k (omega arith) few corner

    -- from a dart to the east of the cell boxes lead to one that covers it
    cover_from : (i j n a : ℕ) → x (w.head a) < n → Crosses w y j a → i < x (w.head a) → x (w.head (faces.around 1)) ≤ i
        → (corner : ℕ → ℕ) × IsRound w 3 1 corner × Covers w x y corner i j
    cover_from i j zero a less crosses right left = absurd (omega (arith, less))
    cover_from i j (suc n) a less crosses right left =
        let (c, c_in, corner, on) = faces.ends a crosses.inside in
        let way : w.direction c ≡ 1 = sym (keeps_way w sound on.places a c crosses.inside on.keeps) ∙ crosses.north in
        elim (faces.each c c_in corner) [
          | inl (box, round, at) ↦
              let on_right : IsOn w a (box 1) = subst (λ (e : ℕ). IsOn w a e) (sym (ap box (sym way) ∙ at)) on in
              let rows = right_rows box j a round crosses on_right in
              let (b, further, on_left, line) = left_dart box j round rows.0 rows.1 in
              let step : IsStep w a b = record { corner = box; box = round; right = on_right; left = on_left } in
              let west = step_west j a b crosses further step in
              elim (cases_lt i (x (w.head b))) [
                | inl east ↦ cover_from i j n b (omega (arith, west, less)) further east left
                | inr here ↦ (
                  box,
                  round,
                  record {
                    left = omega (arith, here, line);
                    right = omega (arith, right, north_line box 3 1 a round crosses.inside on_right);
                    below = rows.0;
                    above = rows.1;
                  },
                )
              ]
          | inr at ↦
              let out : IsOn w a (faces.around 1) = subst (λ (e : ℕ). IsOn w a e) (sym (ap faces.around (sym way) ∙ at)) on in
              absurd (omega (arith, right, left, north_line faces.around 1 3 a faces.outside crosses.inside out))
        ]

    -- each cell inside the outside is covered
    pub cover_some : (i j : ℕ) → x (w.head (faces.around 1)) ≤ i → i < x (w.head (faces.around 3))
        → y (w.head (faces.around 3)) ≤ j → j < y (w.head (faces.around 0))
        → (corner : ℕ → ℕ) × IsRound w 3 1 corner × Covers w x y corner i j
    cover_some i j left right low high =
        let around = faces.around in
        let round = faces.outside in
        let (s, s_in, on, passes) =
        side_spans w sound x y monotone 3 (around 0) (around 3) j (round.inside 0 (omega arith)) (round.ways 3 (omega arith)) (round.sides 3 (omega arith)) (low, high) in
        let way = on_way 1 3 around round 3 s (omega arith) s_in on in
        let line = (side_leads w sound x y monotone 3 s (around 3) s_in (round.ways 3 (omega arith)) on).1 in
        let level = (dart_goes w sound x y monotone 3 s s_in way).1 in
        let a : ℕ = w.reverse_dart s in
        cover_from i j (x (w.head a) + 1) a (omega arith) (back_crosses j s s_in way passes.0 passes.1) (omega (arith, right, level, line)) left
