-- The drawing of a map that is cut into boxes is plane: its vertices lie apart, none lies inside a dart, and no two edges cross.
-- Whatever passes a point touches the cell to the upper right of it, and one face alone has that cell.
use Rattle.std.proofs.Common.{◌≡◌, ℕ, zero, suc, ◌+◌, ◌-◌, ◌%◌, ◌<◌, ◌≤◌, ◌⊎◌, ◌∙◌, arith, subst, sym, ap, refl, inl, inr}
use Rattle.std.proofs.lemmas.Bool.{cases_eq, cases_lt}
use Rattle.dissect.specs.DartMaps.{DartMap, IsSound}
use Rattle.dissect.specs.Faces.{IsCorner}
use Rattle.dissect.specs.Monotone.{IsMonotone, tail}
use Rattle.drawing_laws.proofs.Sides.{Goes, Spans, Keeps, IsOn, on_one, keeps_way, keeps_leads, next_tail, tail_back, dart_goes, goes_on, side_wide, side_once, side_leads}
use Rattle.drawing_laws.proofs.Rounds.{IsRound, AreFaces}
use Rattle.drawing_laws.proofs.Rows.{Crosses, DartsAcross, Covers, IsStep, round_corner, round_goes, box_upright, chain_crosses, chain_one, chain_east, chain_of, chain_within, step_west, cover_step, cover_one}

-- the dart a has the cell to the upper right of the point on its left: it goes past it to the south, or to the east, or it
-- arrives there with an angle that is wide enough
abbrev pub TouchesCell : DartMap → (ℕ → ℕ) → (ℕ → ℕ) → ℕ → ℕ → ℕ → Type 0
TouchesCell w x y px py a =
    ((w.direction a ≡ 3) × (px ≡ x (w.head a)) × (y (w.head a) ≤ py) × (py < y (tail w a)))
    ⊎ (((w.direction a ≡ 0) × (py ≡ y (w.head a)) × (x (tail w a) < px) × (px < x (w.head a)))
    ⊎ ((px ≡ x (w.head a)) × (py ≡ y (w.head a)) × ((w.direction a + 1) % 4 < w.angle a)))

-- how a dart on a box's sides touches it
abbrev BoxTouches : DartMap → (ℕ → ℕ) → (ℕ → ℕ) → ℕ → ℕ → (ℕ → ℕ) → ℕ → Type 0
BoxTouches w x y px py corner a =
    (IsOn w a (corner 3) × (px ≡ x (w.head (corner 3))) × Spans 3 x y py (tail w a) (w.head a))
    ⊎ (IsOn w a (corner 0) × (x (w.head (corner 3)) < px) × Spans 0 x y px (tail w a) (w.head a))

-- how a dart of the outside touches it
abbrev OutsideTouches : DartMap → (ℕ → ℕ) → (ℕ → ℕ) → ℕ → ℕ → (ℕ → ℕ) → ℕ → Type 0
OutsideTouches w x y px py around a =
    (IsOn w a (around 3) × (px ≡ x (w.head (around 3))) × Spans 3 x y py (tail w a) (w.head a) × (py < y (w.head (around 0))))
    ⊎ ((IsOn w a (around 0) × (py ≡ y (w.head (around 0))) × Spans 0 x y px (tail w a) (w.head a) × (x (w.head (around 1)) < px))
    ⊎ ((a ≡ around 1) × (px ≡ x (w.head (around 1))) × (py ≡ y (w.head (around 1)))))

-- the coordinates of the outside's corners
record IsSpread (w : DartMap) (x y : ℕ → ℕ) (around : ℕ → ℕ) : Type 0 where
  wide : x (w.head (around 1)) < x (w.head (around 3))
  right : x (w.head (around 0)) ≡ x (w.head (around 3))
  top : y (w.head (around 1)) ≡ y (w.head (around 0))

-- the point lies inside the way from u to v, which has the direction k
abbrev pub Holds : ℕ → (ℕ → ℕ) → (ℕ → ℕ) → ℕ → ℕ → ℕ → ℕ → Type 0
Holds zero x y px py u v = (y v ≡ py) × (x u < px) × (px < x v)
Holds (suc zero) x y px py u v = (x v ≡ px) × (y u < py) × (py < y v)
Holds (suc (suc zero)) x y px py u v = (y v ≡ py) × (x v < px) × (px < x u)
Holds (suc (suc (suc k))) x y px py u v = (x v ≡ px) × (y v < py) × (py < y u)

-- on a side a dart is straight, or its end
on_straight : (w : DartMap) (a c : ℕ) → IsOn w a c → (a ≡ c) ⊎ (w.angle a ≡ 2)
on_straight w a c on = go w on.places a c on.keeps
  where
    go : (w : DartMap) (k a c : ℕ) → Keeps w k a c → (a ≡ c) ⊎ (w.angle a ≡ 2)
    go w zero a c keeps = inl keeps
    go w (suc k) a c keeps = inr keeps.0

module _ (w : DartMap) (sound : IsSound w) (x y : ℕ → ℕ) (monotone : IsMonotone w x y) where
  -- before its end a side goes on
  keeps_goes : (d k a c : ℕ) → a < w.darts → w.direction c ≡ d → Keeps w k a c → (a ≡ c → ⊥) → Goes d x y (w.head a) (w.head c)
  keeps_goes d zero a c a_in way keeps other = absurd (other keeps)
  keeps_goes d (suc k) a c a_in way keeps other =
      let b : ℕ = w.next a in
      let b_in = sound.tied.next_in a a_in in
      goes_on d x y (w.head a) (w.head b) (w.head c)
      (subst (λ (u : ℕ). Goes d x y u (w.head b)) (next_tail w sound a a_in)
      (dart_goes w sound x y monotone d b b_in (keeps_way w sound k b c b_in keeps.1 ∙ way)))
      (keeps_leads w sound x y monotone d k b c b_in way keeps.1)

  -- ---- in a box

  module _ (corner : ℕ → ℕ) (round : IsRound w 3 1 corner) where
    box_south : (px py a : ℕ) → a < w.darts → IsOn w a (corner 3) → px ≡ x (w.head a) → y (w.head a) ≤ py → py < y (tail w a)
        → Covers w x y corner px py × BoxTouches w x y px py corner a
    box_south px py a a_in on line low high =
        let up = box_upright w sound x y monotone corner round in
        let wide = side_wide w sound x y monotone 3 (corner 2) a (corner 3) py (round.inside 2 (omega arith)) a_in
        (round_corner w sound x y monotone 3 1 corner round (λ e. omega (arith, e)) 2 (omega arith)) (round.ways 3 (omega arith)) (round.sides 3 (omega arith)) on (low, high) in
        let side = (side_leads w sound x y monotone 3 a (corner 3) a_in (round.ways 3 (omega arith)) on).1 in (
          record {
            left = omega (arith, line, side);
            right = omega (arith, line, side, up.wide);
            below = omega (arith, wide.0, up.bottom);
            above = omega (arith, wide.1, up.top);
          },
          inl (on, line ∙ side, (low, high)),
        )

    box_east : (px py a : ℕ) → a < w.darts → IsOn w a (corner 0) → py ≡ y (w.head a) → x (tail w a) < px → px ≤ x (w.head a) → px < x (w.head (corner 0))
        → Covers w x y corner px py × BoxTouches w x y px py corner a
    box_east px py a a_in on line low high less =
        let up = box_upright w sound x y monotone corner round in
        let wide = side_wide w sound x y monotone 0 (corner 3) a (corner 0) px (round.inside 3 (omega arith)) a_in
        (round_corner w sound x y monotone 3 1 corner round (λ e. omega (arith, e)) 3 (omega arith)) (round.ways 0 (omega arith)) (round.sides 0 (omega arith)) on (low, high) in
        let side = (side_leads w sound x y monotone 0 a (corner 0) a_in (round.ways 0 (omega arith)) on).1 in (
          record {
            left = omega (arith, wide.0);
            right = omega (arith, less, up.right);
            below = omega (arith, line, side);
            above = omega (arith, line, side, up.high);
          },
          inr (on, wide.0, (low, high)),
        )

    -- an angle on a box's side is at most straight
    box_angle : (k a : ℕ) → k < 4 → IsOn w a (corner k) → w.angle a ≤ 2
    box_angle k a few on =
        elim (on_straight w a (corner k) on) [
          | inl at ↦ omega (arith, ap w.angle at, round.angles k few)
          | inr straight ↦ omega (arith, straight)
        ]

    box_touches : (k px py a : ℕ) → k < 4 → a < w.darts → w.direction a ≡ k → IsOn w a (corner k) → TouchesCell w x y px py a
        → Covers w x y corner px py × BoxTouches w x y px py corner a
    box_touches k px py a few a_in way on (inl (south, line, low, high)) =
        box_south px py a a_in (subst (λ (m : ℕ). IsOn w a (corner m)) (sym way ∙ south) on) line low high
    box_touches k px py a few a_in way on (inr (inl (east, line, low, high))) =
        let here : IsOn w a (corner 0) = subst (λ (m : ℕ). IsOn w a (corner m)) (sym way ∙ east) on in
        let side = (side_leads w sound x y monotone 0 a (corner 0) a_in (round.ways 0 (omega arith)) here).0 in
        box_east px py a a_in here line low (omega (arith, high)) (omega (arith, high, side))
    box_touches zero px py a few a_in way on (inr (inr (column, row, angle))) =
        let goes = (dart_goes w sound x y monotone 0 a a_in way).0 in
        let wide : 1 < w.angle a = omega (arith, angle, way) in
        let other : a ≡ corner 0 → ⊥ = λ at. omega (arith, wide, ap w.angle at, round.angles 0 (omega arith)) in
        let less = (keeps_goes 0 on.places a (corner 0) a_in (round.ways 0 (omega arith)) on.keeps other).0 in
        box_east px py a a_in on row (omega (arith, goes, column)) (omega (arith, column)) (omega (arith, column, less))
    box_touches (suc zero) px py a few a_in way on (inr (inr (column, row, angle))) =
        absurd (omega (arith, angle, way, box_angle 1 a few on))
    box_touches (suc (suc zero)) px py a few a_in way on (inr (inr (column, row, angle))) =
        absurd (omega (arith, angle, way, box_angle 2 a few on))
    box_touches (suc (suc (suc zero))) px py a few a_in way on (inr (inr (column, row, angle))) =
        let goes = (dart_goes w sound x y monotone 3 a a_in way).0 in
        box_south px py a a_in on column (omega (arith, row)) (omega (arith, row, goes))
    box_touches (suc (suc (suc (suc k)))) px py a few a_in way on (inr (inr seen)) = absurd (omega (arith, few))

  -- two that see one box's cell are one
  box_once : (one two : ℕ → ℕ) → IsRound w 3 1 one → IsRound w 3 1 two → ((k : ℕ) → k < 4 → one k ≡ two k) → (px py a b : ℕ) → a < w.darts → b < w.darts
      → BoxTouches w x y px py one a → BoxTouches w x y px py two b → a ≡ b
  box_once one two first second same px py a b a_in b_in (inl (on, line, spans)) (inl (on', line', spans')) =
      side_once w sound x y monotone 3 a b (one 3) py a_in b_in
      (round_corner w sound x y monotone 3 1 one first (λ e. omega (arith, e)) 3 (omega arith)) (first.ways 3 (omega arith)) on
      (subst (λ (c : ℕ). IsOn w b c) (sym (same 3 (omega arith))) on') spans spans'
  box_once one two first second same px py a b a_in b_in (inl (on, line, spans)) (inr (on', right, spans')) =
      absurd (omega (arith, line, right, ap (λ (c : ℕ). x (w.head c)) (same 3 (omega arith))))
  box_once one two first second same px py a b a_in b_in (inr (on, right, spans)) (inl (on', line, spans')) =
      absurd (omega (arith, line, right, ap (λ (c : ℕ). x (w.head c)) (same 3 (omega arith))))
  box_once one two first second same px py a b a_in b_in (inr (on, right, spans)) (inr (on', right', spans')) =
      side_once w sound x y monotone 0 a b (one 0) px a_in b_in
      (round_corner w sound x y monotone 3 1 one first (λ e. omega (arith, e)) 0 (omega arith)) (first.ways 0 (omega arith)) on
      (subst (λ (c : ℕ). IsOn w b c) (sym (same 0 (omega arith))) on') spans spans'

  module _ (faces : AreFaces w) where
    -- ---- outside

    outside_spread : IsSpread w x y faces.around
    outside_spread =
        let around = faces.around in
        let north : Goes 0 x y (w.head (around 1)) (w.head (around 0)) = round_goes w sound x y monotone 1 3 around faces.outside 0 (omega arith) in
        let east : Goes 3 x y (w.head (around 0)) (w.head (around 3)) = round_goes w sound x y monotone 1 3 around faces.outside 3 (omega arith) in
        record { wide = omega (arith, north.0, east.1); right = east.1; top = north.1 }

    outside_corner : (k : ℕ) → k < 4 → IsCorner w (faces.around k)
    outside_corner k few = round_corner w sound x y monotone 1 3 faces.around faces.outside (λ e. omega (arith, e)) k few

    outside_south : (px py a : ℕ) → a < w.darts → IsOn w a (faces.around 3) → px ≡ x (w.head a) → y (w.head a) ≤ py → py < y (tail w a)
        → OutsideTouches w x y px py faces.around a
    outside_south px py a a_in on line low high =
        let around = faces.around in
        let round = faces.outside in
        let wide = side_wide w sound x y monotone 3 (around 0) a (around 3) py (round.inside 0 (omega arith)) a_in
        (outside_corner 0 (omega arith)) (round.ways 3 (omega arith)) (round.sides 3 (omega arith)) on (low, high) in
        let side = (side_leads w sound x y monotone 3 a (around 3) a_in (round.ways 3 (omega arith)) on).1 in
        inl (on, line ∙ side, (low, high), wide.1)

    outside_east : (px py a : ℕ) → a < w.darts → IsOn w a (faces.around 0) → py ≡ y (w.head a) → x (tail w a) < px → px ≤ x (w.head a)
        → OutsideTouches w x y px py faces.around a
    outside_east px py a a_in on line low high =
        let around = faces.around in
        let round = faces.outside in
        let wide = side_wide w sound x y monotone 0 (around 1) a (around 0) px (round.inside 1 (omega arith)) a_in
        (outside_corner 1 (omega arith)) (round.ways 0 (omega arith)) (round.sides 0 (omega arith)) on (low, high) in
        let side = (side_leads w sound x y monotone 0 a (around 0) a_in (round.ways 0 (omega arith)) on).1 in
        inr (inl (on, line ∙ side, (low, high), wide.0))

    outside_touches : (k px py a : ℕ) → k < 4 → a < w.darts → w.direction a ≡ k → IsOn w a (faces.around k) → TouchesCell w x y px py a
        → OutsideTouches w x y px py faces.around a
    outside_touches k px py a few a_in way on (inl (south, line, low, high)) =
        outside_south px py a a_in (subst (λ (m : ℕ). IsOn w a (faces.around m)) (sym way ∙ south) on) line low high
    outside_touches k px py a few a_in way on (inr (inl (east, line, low, high))) =
        outside_east px py a a_in (subst (λ (m : ℕ). IsOn w a (faces.around m)) (sym way ∙ east) on) line low (omega (arith, high))
    outside_touches zero px py a few a_in way on (inr (inr (column, row, angle))) =
        let goes = (dart_goes w sound x y monotone 0 a a_in way).0 in
        outside_east px py a a_in on row (omega (arith, goes, column)) (omega (arith, column))
    outside_touches (suc zero) px py a few a_in way on (inr (inr (column, row, angle))) =
        elim (on_straight w a (faces.around 1) on) [
          | inl at ↦ inr (inr (at, column ∙ ap (λ (c : ℕ). x (w.head c)) at, row ∙ ap (λ (c : ℕ). y (w.head c)) at))
          | inr straight ↦ absurd (omega (arith, angle, way, straight))
        ]
    outside_touches (suc (suc zero)) px py a few a_in way on (inr (inr (column, row, angle))) =
        elim (on_straight w a (faces.around 2) on) [
          | inl at ↦ absurd (omega (arith, angle, way, ap w.angle at, faces.outside.angles 2 few))
          | inr straight ↦ absurd (omega (arith, angle, way, straight))
        ]
    outside_touches (suc (suc (suc zero))) px py a few a_in way on (inr (inr (column, row, angle))) =
        let goes = (dart_goes w sound x y monotone 3 a a_in way).0 in
        outside_south px py a a_in on column (omega (arith, row)) (omega (arith, row, goes))
    outside_touches (suc (suc (suc (suc k)))) px py a few a_in way on (inr (inr seen)) = absurd (omega (arith, few))

    -- two that see one cell from the outside are one
    outside_once : (px py a b : ℕ) → a < w.darts → b < w.darts → OutsideTouches w x y px py faces.around a → OutsideTouches w x y px py faces.around b → a ≡ b
    outside_once px py a b a_in b_in (inl (on, line, spans, low)) (inl (on', line', spans', low')) =
        side_once w sound x y monotone 3 a b (faces.around 3) py a_in b_in (outside_corner 3 (omega arith)) (faces.outside.ways 3 (omega arith)) on on' spans spans'
    outside_once px py a b a_in b_in (inl (on, line, spans, low)) (inr (inl (on', line', spans', right))) = absurd (omega (arith, low, line'))
    outside_once px py a b a_in b_in (inl (on, line, spans, low)) (inr (inr (at, column, row))) = absurd (omega (arith, line, column, outside_spread.wide))
    outside_once px py a b a_in b_in (inr (inl (on, line, spans, right))) (inl (on', line', spans', low)) = absurd (omega (arith, low, line))
    outside_once px py a b a_in b_in (inr (inl (on, line, spans, right))) (inr (inl (on', line', spans', right'))) =
        side_once w sound x y monotone 0 a b (faces.around 0) px a_in b_in (outside_corner 0 (omega arith)) (faces.outside.ways 0 (omega arith)) on on' spans spans'
    outside_once px py a b a_in b_in (inr (inl (on, line, spans, right))) (inr (inr (at, column, row))) = absurd (omega (arith, right, column))
    outside_once px py a b a_in b_in (inr (inr (at, column, row))) (inl (on', line, spans, low)) = absurd (omega (arith, line, column, outside_spread.wide))
    outside_once px py a b a_in b_in (inr (inr (at, column, row))) (inr (inl (on', line, spans, right))) = absurd (omega (arith, right, column))
    outside_once px py a b a_in b_in (inr (inr (at, column, row))) (inr (inr (at', column', row'))) = at ∙ sym at'

    -- ---- a box does not cover what the outside sees

    -- each chain begins on the outside's left side
    chain_rows : (j k a : ℕ) → DartsAcross w y faces.around j k a → j < y (w.head (faces.around 1))
    chain_rows j zero a (crosses, on) =
        let wide = side_wide w sound x y monotone 1 (faces.around 2) a (faces.around 1) (j + 1) (faces.outside.inside 2 (omega arith)) crosses.inside
        (outside_corner 2 (omega arith)) (faces.outside.ways 1 (omega arith)) (faces.outside.sides 1 (omega arith)) on (omega (arith, crosses.low), omega (arith, crosses.high)) in
        omega (arith, wide.1)
    chain_rows j (suc k) a (b, crosses, step, rest) = chain_rows j k b rest

    -- a longer chain ends truly further to the east
    chain_less : (j k m a b : ℕ) → DartsAcross w y faces.around j k a → DartsAcross w y faces.around j m b → k < m → x (w.head a) < x (w.head b)
    chain_less j k zero a b one two less = absurd (omega (arith, less))
    chain_less j k (suc m) a b one (c, crosses, step, rest) less =
        let more : m ≡ k + (m - k) = omega (arith, less) in
        let before = chain_east w sound x y monotone faces j k (m - k) a c one (subst (λ (n : ℕ). DartsAcross w y faces.around j n c) more rest) in
        omega (arith, before, step_west w sound x y monotone j b c crosses (chain_crosses w sound x y monotone faces j m c rest) step)

    -- on the left of a cell that a box covers stands the box's left side alone
    one_place : (px py k m e c b : ℕ) → Crosses w y py c → IsStep w c b → px < x (w.head c) → x (w.head b) ≤ px → DartsAcross w y faces.around py m b
        → DartsAcross w y faces.around py k e → x (w.head e) ≡ px → e ≡ b
    one_place px py k m e c b crosses step right left near far place =
        let few = chain_within w sound x y monotone faces px py k m e c b crosses step right near far (omega (arith, place)) in
        elim (cases_eq k m) [
          | inl same ↦ chain_one w sound x y monotone faces py m e b (subst (λ (n : ℕ). DartsAcross w y faces.around py n e) same far) near
          | inr other ↦ absurd (omega (arith, chain_less py k m e b far near (omega (arith, few, other)), place, left))
        ]

    -- a dart of the outside's right side, walked back, ends a chain of the row; no box stands to the east of it
    south_out : (corner : ℕ → ℕ) (px py a c b : ℕ) → a < w.darts → IsRound w 3 1 corner → IsOn w a (faces.around 3) → px ≡ x (w.head (faces.around 3))
        → Spans 3 x y py (tail w a) (w.head a) → Crosses w y py c → Crosses w y py b → IsStep w c b → IsOn w (w.reverse_dart b) (corner 3)
        → px < x (w.head c) → x (w.head b) ≤ px → ⊥
    south_out corner px py a c b a_in round on line spans c_crosses b_crosses step left c_right b_left =
        let round' = faces.outside in
        let way : w.direction a ≡ 3 = keeps_way w sound on.places a (faces.around 3) a_in on.keeps ∙ round'.ways 3 (omega arith) in
        let side = (side_leads w sound x y monotone 3 a (faces.around 3) a_in (round'.ways 3 (omega arith)) on).1 in
        let level = (dart_goes w sound x y monotone 3 a a_in way).1 in
        let e : ℕ = w.reverse_dart a in
        let e_in = sound.tied.reverse_dart_in a a_in in
        let crosses : Crosses w y py e = record {
          inside = e_in;
          north = omega (arith, sound.straight a a_in, way);
          low = omega (arith, spans.0, ap y (tail_back w sound x y monotone a a_in));
          high = spans.1;
        } in
        let place : x (w.head e) ≡ px = level ∙ side ∙ sym line in
        let (k, far) = chain_of w sound x y monotone faces py (x (w.head e) + 1) e (omega arith) crosses in
        let (m, near) = chain_of w sound x y monotone faces py (x (w.head b) + 1) b (omega arith) b_crosses in
        let at : e ≡ b = one_place px py k m e c b c_crosses step c_right b_left near far place in
        let back : w.reverse_dart b ≡ a = ap w.reverse_dart (sym at) ∙ sound.tied.reverse_dart_back a a_in in
        let corners : corner 3 ≡ faces.around 3 =
        on_one w a (corner 3) (faces.around 3) (round_corner w sound x y monotone 3 1 corner round (λ e. omega (arith, e)) 3 (omega arith)) (outside_corner 3 (omega arith))
        (subst (λ (d : ℕ). IsOn w d (corner 3)) back left) on in
        omega (arith, round.angles 3 (omega arith), round'.angles 3 (omega arith), ap w.angle corners)

    not_both : (corner : ℕ → ℕ) (px py a : ℕ) → a < w.darts → IsRound w 3 1 corner → Covers w x y corner px py → OutsideTouches w x y px py faces.around a → ⊥
    not_both corner px py a a_in round covers sees =
        let (c, b, c_crosses, c_on, b_crosses, step, c_right, b_left, left) = cover_step w sound x y monotone faces corner px py round covers in
        let (m, chain) = chain_of w sound x y monotone faces py (x (w.head b) + 1) b (omega arith) b_crosses in
        let high = chain_rows py m b chain in
        elim sees [
          | inl (on, line, spans, low) ↦ south_out corner px py a c b a_in round on line spans c_crosses b_crosses step left c_right b_left
          | inr other ↦ elim other [
            | inl (on, line, spans, right) ↦ omega (arith, high, line, outside_spread.top)
            | inr (at, column, row) ↦ omega (arith, high, row)
          ]
        ]

    -- ---- the cell has one face

    -- whatever touches the cell does so from a box that covers it, or from the outside
    seen_from : (px py a : ℕ) → a < w.darts → TouchesCell w x y px py a
        → ((corner : ℕ → ℕ) × IsRound w 3 1 corner × Covers w x y corner px py × BoxTouches w x y px py corner a) ⊎ OutsideTouches w x y px py faces.around a
    seen_from px py a a_in sees =
        let (c, c_in, corner, on) = faces.ends a a_in in
        let k : ℕ = w.direction a in
        let few : k < 4 = sound.meeting.quarter a a_in in
        let way : w.direction c ≡ k = sym (keeps_way w sound on.places a c a_in on.keeps) in
        elim (faces.each c c_in corner) [
          | inl (box, round, at) ↦
              let here : IsOn w a (box k) = subst (λ (e : ℕ). IsOn w a e) (sym (ap box (sym way) ∙ at)) on in
              let (covers, seen) = box_touches box round k px py a few a_in refl here sees in
              inl (box, round, covers, seen)
          | inr at ↦
              let here : IsOn w a (faces.around k) = subst (λ (e : ℕ). IsOn w a e) (sym (ap faces.around (sym way) ∙ at)) on in
              inr (outside_touches k px py a few a_in refl here sees)
        ]

    -- so one dart alone sees it
    pub touches_one : (px py a b : ℕ) → a < w.darts → b < w.darts → TouchesCell w x y px py a → TouchesCell w x y px py b → a ≡ b
    touches_one px py a b a_in b_in one two =
        elim (seen_from px py a a_in one) [
          | inl (box, round, covers, seen) ↦ elim (seen_from px py b b_in two) [
            | inl (box', round', covers', seen') ↦
                box_once box box' round round' (cover_one w sound x y monotone faces box box' px py round round' covers covers') px py a b a_in b_in seen seen'
            | inr out ↦ absurd (not_both box px py b b_in round covers out)
          ]
          | inr out ↦ elim (seen_from px py b b_in two) [
            | inl (box', round', covers', seen') ↦ absurd (not_both box' px py a a_in round' covers' out)
            | inr out' ↦ outside_once px py a b a_in b_in out out'
          ]
        ]

    -- ---- vertices and darts

    -- of the darts that arrive at a vertex one touches the cell to the upper right
    vertex_touches : (n a : ℕ) → a < w.darts → (w.direction a + 1) % 4 < n
        → (c : ℕ) × (c < w.darts) × (w.head c ≡ w.head a) × ((w.direction c + 1) % 4 < w.angle c)
    vertex_touches zero a a_in less = absurd (omega (arith, less))
    vertex_touches (suc n) a a_in less =
        elim (cases_lt ((w.direction a + 1) % 4) (w.angle a)) [
          | inl wide ↦ (a, a_in, refl, wide)
          | inr narrow ↦
              let b : ℕ = w.reverse_dart (w.next a) in
              let b_in = sound.tied.reverse_dart_in (w.next a) (sound.tied.next_in a a_in) in
              let turns = sound.meeting.turns a a_in in
              let q = sound.meeting.quarter in
              let (c, c_in, there, wide) =
              vertex_touches n b b_in (omega (arith, turns, narrow, less, q a a_in, q b b_in, sound.meeting.some a a_in)) in
              (c, c_in, there ∙ sound.meeting.meets a a_in, wide)
        ]

    vertex_seen : (a : ℕ) → a < w.darts → (c : ℕ) × (c < w.darts) × (w.head c ≡ w.head a) × TouchesCell w x y (x (w.head a)) (y (w.head a)) c
    vertex_seen a a_in =
        let (c, c_in, there, wide) = vertex_touches 4 a a_in (omega arith) in
        (c, c_in, there, inr (inr (ap x (sym there), ap y (sym there), wide)))

    -- no two vertices have one point
    pub vertices_apart : (a b : ℕ) → a < w.darts → b < w.darts → x (w.head a) ≡ x (w.head b) → y (w.head a) ≡ y (w.head b) → w.head a ≡ w.head b
    vertices_apart a b a_in b_in column row =
        let (c, c_in, there, sees) = vertex_seen a a_in in
        let (d, d_in, there', sees') = vertex_seen b b_in in
        let same : c ≡ d = touches_one (x (w.head b)) (y (w.head b)) c d c_in d_in
        (subst (λ (r : ℕ). TouchesCell w x y (x (w.head b)) r c) row (subst (λ (k : ℕ). TouchesCell w x y k (y (w.head a)) c) column sees)) sees' in
        sym there ∙ ap w.head same ∙ there'

    -- a dart that a point lies inside touches the cell, or its reverse does
    holds_seen : (k px py a : ℕ) → a < w.darts → w.direction a ≡ k → Holds k x y px py (tail w a) (w.head a)
        → (c : ℕ) × (c < w.darts) × ((c ≡ a) ⊎ (c ≡ w.reverse_dart a)) × TouchesCell w x y px py c × ((px ≡ x (w.head c)) → (py ≡ y (w.head c)) → ⊥)
    holds_seen zero px py a a_in way (line, low, high) =
        (a, a_in, inl refl, inr (inl (way, sym line, low, high)), λ e f. omega (arith, e, high))
    holds_seen (suc zero) px py a a_in way (line, low, high) =
        let c : ℕ = w.reverse_dart a in
        let goes = (dart_goes w sound x y monotone 1 a a_in way).1 in
        let from = tail_back w sound x y monotone a a_in in (
          c,
          sound.tied.reverse_dart_in a a_in,
          inr refl,
          inl (omega (arith, sound.straight a a_in, way), omega (arith, goes, line), omega (arith, low), omega (arith, high, ap y from)),
          λ e f. omega (arith, f, low),
        )
    holds_seen (suc (suc zero)) px py a a_in way (line, low, high) =
        let c : ℕ = w.reverse_dart a in
        let goes = (dart_goes w sound x y monotone 2 a a_in way).1 in
        let from = tail_back w sound x y monotone a a_in in (
          c,
          sound.tied.reverse_dart_in a a_in,
          inr refl,
          inr (inl (omega (arith, sound.straight a a_in, way), omega (arith, goes, line), omega (arith, low, ap x from), omega (arith, high))),
          λ e f. omega (arith, e, high),
        )
    holds_seen (suc (suc (suc zero))) px py a a_in way (line, low, high) =
        (a, a_in, inl refl, inl (way, sym line, omega (arith, low), high), λ e f. omega (arith, f, low))
    holds_seen (suc (suc (suc (suc k)))) px py a a_in way holds = absurd (omega (arith, way, sound.meeting.quarter a a_in))

    -- no vertex lies inside a dart
    pub vertex_outside : (a b : ℕ) → a < w.darts → b < w.darts → Holds (w.direction a) x y (x (w.head b)) (y (w.head b)) (tail w a) (w.head a) → ⊥
    vertex_outside a b a_in b_in holds =
        let (c, c_in, is, sees, away) = holds_seen (w.direction a) (x (w.head b)) (y (w.head b)) a a_in refl holds in
        let (d, d_in, there, sees') = vertex_seen b b_in in
        let same : d ≡ c = touches_one (x (w.head b)) (y (w.head b)) d c d_in c_in sees' sees in
        let at : w.head b ≡ w.head c = sym there ∙ ap w.head same in
        away (ap x at) (ap y at)

    -- and no two edges cross or overlap
    pub darts_apart : (px py a b : ℕ) → a < w.darts → b < w.darts → Holds (w.direction a) x y px py (tail w a) (w.head a)
        → Holds (w.direction b) x y px py (tail w b) (w.head b) → (a ≡ b) ⊎ (a ≡ w.reverse_dart b)
    darts_apart px py a b a_in b_in one two =
        let (c, c_in, is, sees, away) = holds_seen (w.direction a) px py a a_in refl one in
        let (d, d_in, is', sees', away') = holds_seen (w.direction b) px py b b_in refl two in
        let same : c ≡ d = touches_one px py c d c_in d_in sees sees' in
        let back = sound.tied.reverse_dart_back in
        elim is [
          | inl at ↦ elim is' [
            | inl at' ↦ inl (sym at ∙ same ∙ at')
            | inr at' ↦ inr (sym at ∙ same ∙ at')
          ]
          | inr at ↦ elim is' [
            | inl at' ↦ inr (sym (back a a_in) ∙ ap w.reverse_dart (sym at ∙ same ∙ at'))
            | inr at' ↦ inl (sym (back a a_in) ∙ ap w.reverse_dart (sym at ∙ same ∙ at') ∙ back b b_in)
          ]
        ]
