-- Each cell has the label of the box that covers it, and that of the outside where none does. Along each dart these are the labels of
-- its two sides, and where no dart is between two cells they are of one box or of the outside.
use Rattle.std.proofs.Common.{◌≡◌, ℕ, zero, suc, ◌+◌, ◌-◌, ◌%◌, ◌<◌, ◌≤◌, ◌⊎◌, ◌∙◌, arith, subst, sym, ap, refl, inl, inr}
use Rattle.std.proofs.lemmas.Bool.{cases_eq, cases_lt}
use Rattle.dissect.specs.DartMaps.{DartMap, IsSound}
use Rattle.dissect.specs.Faces.{Stretches}
use Rattle.dissect.proofs.Stretching.{stretch_level}
use Rattle.dissect.specs.Monotone.{IsMonotone, tail}
use Rattle.dissect.specs.Boxes.{BoxesModel, dart_map}
use Rattle.dissect.specs.Boxed.{IsBoxed}
use Rattle.faces.specs.Planes.{PlaneModel}
use Rattle.ortho_rep.specs.Shapes.{ShapeModel}
use Rattle.drawing_laws.specs.CellFaces.{PassesRow, PassesColumn, AreCellLabels}
use Rattle.drawing_laws.proofs.Sides.{Goes, Spans, IsOn, Keeps, on_one, keeps_way, tail_back, dart_goes, side_spans, side_wide, side_leads}
use Rattle.drawing_laws.proofs.Covering.{rectangle_around}
use Rattle.drawing_laws.proofs.Rounds.{IsRound, AreFaces, are_faces}
use Rattle.drawing_laws.proofs.Rows.{Crosses, DartsAcross, Covers, round_corner, round_goes, box_upright, right_dart, left_dart, right_rows, back_crosses, step_west, chain_crosses, chain_one, chain_east, chain_of, cover_step, cover_one, cover_some}

-- what does not change round any face is the same all along a side
keeps_level : (w : DartMap) (label : ℕ → ℕ) → IsSound w → ((a : ℕ) → a < w.darts → label (w.next a) ≡ label a) → (k a c : ℕ) → a < w.darts →
    Keeps w k a c → label a ≡ label c
keeps_level w label sound round zero a c a_in keeps = ap label keeps
keeps_level w label sound round (suc k) a c a_in keeps =
    sym (round a a_in) ∙ keeps_level w label sound round k (w.next a) c (sound.tied.next_in a a_in) keeps.1

module _ (w : DartMap) (sound : IsSound w) (x y : ℕ → ℕ) (monotone : IsMonotone w x y) (faces : AreFaces w) where
  -- the cell in column i and row j, counted from its lower left corner, lies in the rectangle
  abbrev IsInside : ℕ → ℕ → Type 0
  IsInside i j =
      (x (w.head (faces.around 1)) ≤ i) × (i < x (w.head (faces.around 3)))
      × (y (w.head (faces.around 3)) ≤ j) × (j < y (w.head (faces.around 0)))

  inside_or_not : (i j : ℕ) → IsInside i j ⊎ (IsInside i j → ⊥)
  inside_or_not i j =
      elim (cases_lt i (x (w.head (faces.around 1)))) [
        | inl less ↦ inr (λ h. omega (arith, h.0, less))
        | inr west ↦ elim (cases_lt i (x (w.head (faces.around 3)))) [
          | inr more ↦ inr (λ h. omega (arith, h.1, more))
          | inl east ↦ elim (cases_lt j (y (w.head (faces.around 3)))) [
            | inl less ↦ inr (λ h. omega (arith, h.2, less))
            | inr south ↦ elim (cases_lt j (y (w.head (faces.around 0)))) [
              | inr more ↦ inr (λ h. omega (arith, h.3, more))
              | inl north ↦ inl (west, east, south, north)
            ]
          ]
        ]
      ]

  -- the sides of the outside
  outside_south : Goes 2 x y (w.head (faces.around 3)) (w.head (faces.around 2))
  outside_south = round_goes w sound x y monotone 1 3 faces.around faces.outside 2 (omega arith)

  outside_north : Goes 0 x y (w.head (faces.around 1)) (w.head (faces.around 0))
  outside_north = round_goes w sound x y monotone 1 3 faces.around faces.outside 0 (omega arith)

  -- a sequence of darts begins on the west side of the outside
  chain_begins : (j k b : ℕ) → DartsAcross w y faces.around j k b → (e : ℕ) × Crosses w y j e × IsOn w e (faces.around 1) × (x (w.head e) ≤ x (w.head b))
  chain_begins j zero b chain = (b, chain.0, chain.1, omega arith)
  chain_begins j (suc k) b (c, crosses, step, rest) =
      let (e, e_crosses, on, less) = chain_begins j k c rest in
      (e, e_crosses, on, (let west = step_west w sound x y monotone j b c crosses (chain_crosses w sound x y monotone faces j k c rest) step in omega (arith, west, less)))

  -- and each longer one goes through a dart of each shorter length
  chain_through : (j m d a : ℕ) → DartsAcross w y faces.around j (m + d) a → (c : ℕ) × DartsAcross w y faces.around j m c
  chain_through j m zero a chain =
      let same : m + zero ≡ m = omega arith in
      (a, subst (λ (n : ℕ). DartsAcross w y faces.around j n a) same chain)
  chain_through j m (suc d) a chain =
      let more : m + suc d ≡ suc (m + d) = omega arith in
      let (c, crosses, step, rest) = subst (λ (n : ℕ). DartsAcross w y faces.around j n a) more chain in
      chain_through j m d c rest

  -- the row of a dart on the west side of the outside
  outside_rows : (j e : ℕ) → Crosses w y j e → IsOn w e (faces.around 1) → (y (w.head (faces.around 2)) ≤ j) × (j < y (w.head (faces.around 1)))
  outside_rows j e crosses on =
      let o = faces.outside in
      let wide = side_wide w sound x y monotone 1 (faces.around 2) e (faces.around 1) (j + 1) (o.inside 2 (omega arith)) crosses.inside
      (round_corner w sound x y monotone 1 3 faces.around o (λ h. omega (arith, h)) 2 (omega arith)) (o.ways 1 (omega arith)) (o.sides 1 (omega arith)) on
      (omega (arith, crosses.low), omega (arith, crosses.high)) in
      (omega (arith, wide.0), omega (arith, wide.1))

  -- no dart of the row lies further east than the east side of the outside
  not_beyond : (j a : ℕ) → Crosses w y j a → y (w.head (faces.around 3)) ≤ j → j < y (w.head (faces.around 0)) → x (w.head a) ≤ x (w.head (faces.around 3))
  not_beyond j a crosses low high =
      let o = faces.outside in
      let (s, s_in, on, passes) =
      side_spans w sound x y monotone 3 (faces.around 0) (faces.around 3) j (o.inside 0 (omega arith)) (o.ways 3 (omega arith)) (o.sides 3 (omega arith)) (low, high) in
      let way : w.direction s ≡ 3 = keeps_way w sound on.places s (faces.around 3) s_in on.keeps ∙ o.ways 3 (omega arith) in
      let line = (side_leads w sound x y monotone 3 s (faces.around 3) s_in (o.ways 3 (omega arith)) on).1 in
      let level = (dart_goes w sound x y monotone 3 s s_in way).1 in
      let r : ℕ = w.reverse_dart s in
      let r_crosses = back_crosses w sound x y monotone j s s_in way passes.0 passes.1 in
      let (m, near) = chain_of w sound x y monotone faces j (x (w.head r) + 1) r (omega arith) r_crosses in
      let (n, far) = chain_of w sound x y monotone faces j (x (w.head a) + 1) a (omega arith) crosses in
      elim (cases_lt m n) [
        | inr few ↦
            let more : m ≡ n + (m - n) = omega (arith, few) in
            let east = chain_east w sound x y monotone faces j n (m - n) a r far (subst (λ (k : ℕ). DartsAcross w y faces.around j k r) more near) in
            omega (arith, east, line, level)
        | inl less ↦
            let more : n ≡ suc m + (n - suc m) = omega (arith, less) in
            let (c, (b, b_crosses, step, rest)) = chain_through j (suc m) (n - suc m) a (subst (λ (k : ℕ). DartsAcross w y faces.around j k a) more far) in
            let same : b ≡ r = chain_one w sound x y monotone faces j m b r rest near in
            let left : IsOn w s (step.corner 3) =
            subst (λ (k : ℕ). IsOn w k (step.corner 3)) (ap w.reverse_dart same ∙ sound.tied.reverse_dart_back s s_in) step.left in
            let at : step.corner 3 ≡ faces.around 3 =
            on_one w s (step.corner 3) (faces.around 3) (round_corner w sound x y monotone 3 1 step.corner step.box (λ h. omega (arith, h)) 3 (omega arith))
            (round_corner w sound x y monotone 1 3 faces.around o (λ h. omega (arith, h)) 3 (omega arith)) left on in
            absurd (omega (arith, ap w.angle at, step.box.angles 3 (omega arith), o.angles 3 (omega arith)))
      ]

  -- what a box covers lies in the rectangle
  covers_inside : (corner : ℕ → ℕ) (i j : ℕ) → IsRound w 3 1 corner → Covers w x y corner i j → IsInside i j
  covers_inside corner i j round covers =
      let (a, b, a_crosses, a_on, b_crosses, step, a_right, b_left, left) = cover_step w sound x y monotone faces corner i j round covers in
      let (k, chain) = chain_of w sound x y monotone faces j (x (w.head b) + 1) b (omega arith) b_crosses in
      let (e, e_crosses, e_on, west) = chain_begins j k b chain in
      let rows = outside_rows j e e_crosses e_on in
      let line = (side_leads w sound x y monotone 1 e (faces.around 1) e_crosses.inside (faces.outside.ways 1 (omega arith)) e_on).1 in
      let low : y (w.head (faces.around 3)) ≤ j = omega (arith, rows.0, outside_south.1) in
      let high : j < y (w.head (faces.around 0)) = omega (arith, rows.1, outside_north.1) in
      let east = not_beyond j a a_crosses low high in
      (omega (arith, line, west, b_left), omega (arith, east, a_right), low, high)

  -- ---- labels

  module _ (label : ℕ → ℕ) (outer : ℕ) (round_label : (a : ℕ) → a < w.darts → label (w.next a) ≡ label a) (out : label (faces.around 1) ≡ outer) where
    on_level : (a c : ℕ) → a < w.darts → IsOn w a c → label a ≡ label c
    on_level a c a_in on = keeps_level w label sound round_label on.places a c a_in on.keeps

    -- the corners of one face have one label
    corner_step : (back angle : ℕ) (corner : ℕ → ℕ) → IsRound w back angle corner → (k m : ℕ) → k < 4 → (k + back) % 4 ≡ m → label (corner k) ≡ label (corner m)
    corner_step back angle corner round k m few is =
        let side : Stretches w (corner m) (corner k) = subst (λ (e : ℕ). Stretches w (corner e) (corner k)) is (round.sides k few) in
        let m_in : m < 4 = omega (arith, is) in
        stretch_level w label sound.tied round_label side.places (corner m) (corner k) (round.inside m m_in) side.stretch

    box_label : (corner : ℕ → ℕ) → IsRound w 3 1 corner → (k : ℕ) → k < 4 → label (corner k) ≡ label (corner 1)
    box_label corner round zero few =
        let s : (k m : ℕ) → k < 4 → (k + 3) % 4 ≡ m → label (corner k) ≡ label (corner m) = corner_step 3 1 corner round in
        s 0 3 (omega arith) refl ∙ s 3 2 (omega arith) refl ∙ s 2 1 (omega arith) refl
    box_label corner round (suc zero) few = refl
    box_label corner round (suc (suc zero)) few = corner_step 3 1 corner round 2 1 (omega arith) refl
    box_label corner round (suc (suc (suc zero))) few =
        let s : (k m : ℕ) → k < 4 → (k + 3) % 4 ≡ m → label (corner k) ≡ label (corner m) = corner_step 3 1 corner round in
        s 3 2 (omega arith) refl ∙ s 2 1 (omega arith) refl
    box_label corner round (suc (suc (suc (suc k)))) few = absurd (omega (arith, few))

    outside_label : (k : ℕ) → k < 4 → label (faces.around k) ≡ outer
    outside_label zero few = corner_step 1 3 faces.around faces.outside 0 1 (omega arith) refl ∙ out
    outside_label (suc zero) few = out
    outside_label (suc (suc zero)) few =
        let s : (k m : ℕ) → k < 4 → (k + 1) % 4 ≡ m → label (faces.around k) ≡ label (faces.around m) = corner_step 1 3 faces.around faces.outside in
        s 2 3 (omega arith) refl ∙ s 3 0 (omega arith) refl ∙ s 0 1 (omega arith) refl ∙ out
    outside_label (suc (suc (suc zero))) few =
        let s : (k m : ℕ) → k < 4 → (k + 1) % 4 ≡ m → label (faces.around k) ≡ label (faces.around m) = corner_step 1 3 faces.around faces.outside in
        s 3 0 (omega arith) refl ∙ s 0 1 (omega arith) refl ∙ out
    outside_label (suc (suc (suc (suc k)))) few = absurd (omega (arith, few))

    -- the label of a cell
    abbrev HasLabel : ℕ → ℕ → Type 0
    HasLabel i j =
        (face : ℕ) × ((corner : ℕ → ℕ) → IsRound w 3 1 corner → Covers w x y corner i j → face ≡ label (corner 1)) × ((IsInside i j → ⊥) → face ≡ outer)

    cell : (i j : ℕ) → HasLabel i j
    cell i j =
        elim (inside_or_not i j) [
          | inl (west, east, south, north) ↦
              let (corner, round, covers) = cover_some w sound x y monotone faces i j west east south north in (
                label (corner 1),
                λ other round' covers'. ap label (cover_one w sound x y monotone faces corner other i j round round' covers covers' 1 (omega arith)),
                λ off. absurd (off (west, east, south, north)),
              )
          | inr off ↦ (
            outer,
            λ corner round covers. absurd (off (covers_inside corner i j round covers)),
            λ _. refl,
          )
        ]

    abbrev region : ℕ → ℕ → ℕ
    region zero j = outer
    region (suc i) zero = outer
    region (suc i) (suc j) = (cell i j).0

    region_at : (m n i j : ℕ) → m ≡ i + 1 → n ≡ j + 1 → region m n ≡ (cell i j).0
    region_at zero n i j at_i at_j = absurd (omega (arith, at_i))
    region_at (suc m) zero i j at_i at_j = absurd (omega (arith, at_j))
    region_at (suc m) (suc n) i j at_i at_j =
        let is_i : m ≡ i = omega (arith, at_i) in
        let is_j : n ≡ j = omega (arith, at_j) in
        ap (λ (k : ℕ). (cell k n).0) is_i ∙ ap (λ (k : ℕ). (cell i k).0) is_j

    region_south : (m n : ℕ) → n ≡ 0 → region m n ≡ outer
    region_south zero n none = refl
    region_south (suc m) zero none = refl
    region_south (suc m) (suc n) none = absurd (omega (arith, none))

    region_west : (m n : ℕ) → m ≡ 0 → region m n ≡ outer
    region_west zero n none = refl
    region_west (suc m) n none = absurd (omega (arith, none))

    -- where a box covers the cell, and where none does
    region_covered : (m n i j : ℕ) → m ≡ i + 1 → n ≡ j + 1 → (corner : ℕ → ℕ) → IsRound w 3 1 corner → Covers w x y corner i j → region m n ≡ label (corner 1)
    region_covered m n i j at_i at_j corner round covers = region_at m n i j at_i at_j ∙ (cell i j).1 corner round covers

    region_off : (m n i j : ℕ) → m ≡ i + 1 → n ≡ j + 1 → (IsInside i j → ⊥) → region m n ≡ outer
    region_off m n i j at_i at_j off = region_at m n i j at_i at_j ∙ (cell i j).2 off

    -- ---- beside a dart to the north

    west_of : (a j : ℕ) → Crosses w y j a → region (x (w.head a)) (j + 1) ≡ label a
    west_of a j crosses =
        let (c, c_in, corner, on) = faces.ends a crosses.inside in
        let way : w.direction c ≡ 1 = sym (keeps_way w sound on.places a c crosses.inside on.keeps) ∙ crosses.north in
        elim (faces.each c c_in corner) [
          | inl (box, round, at) ↦
              let right : IsOn w a (box 1) = subst (λ (e : ℕ). IsOn w a e) (sym (ap box (sym way) ∙ at)) on in
              let rows = right_rows w sound x y monotone box j a round crosses right in
              let line = (side_leads w sound x y monotone 1 a (box 1) crosses.inside (round.ways 1 (omega arith)) right).1 in
              let up = box_upright w sound x y monotone box round in
              region_covered (x (w.head a)) (j + 1) (x (w.head a) - 1) j (omega (arith, line, up.wide)) refl box round
              (record {
                left = omega (arith, line, up.wide);
                right = omega (arith, line, up.wide);
                below = rows.0;
                above = rows.1;
              })
              ∙ sym (on_level a (box 1) crosses.inside right)
          | inr at ↦
              let side : IsOn w a (faces.around 1) = subst (λ (e : ℕ). IsOn w a e) (sym (ap faces.around (sym way) ∙ at)) on in
              let line = (side_leads w sound x y monotone 1 a (faces.around 1) crosses.inside (faces.outside.ways 1 (omega arith)) side).1 in
              let is : outer ≡ label a = sym (on_level a (faces.around 1) crosses.inside side ∙ out) in
              elim (cases_eq (x (w.head a)) 0) [
                | inl none ↦ region_west (x (w.head a)) (j + 1) none ∙ is
                | inr some ↦
                    region_off (x (w.head a)) (j + 1) (x (w.head a) - 1) j (omega (arith, some)) refl (λ h. omega (arith, h.0, line, some)) ∙ is
              ]
        ]

    east_of : (a j : ℕ) → Crosses w y j a → region (x (w.head a) + 1) (j + 1) ≡ label (w.reverse_dart a)
    east_of a j crosses =
        let s : ℕ = w.reverse_dart a in
        let s_in : s < w.darts = sound.tied.reverse_dart_in a crosses.inside in
        let s_way : w.direction s ≡ 3 = sound.straight a crosses.inside ∙ ap (λ (d : ℕ). (d + 2) % 4) crosses.north in
        let level : x (tail w a) ≡ x (w.head a) = (dart_goes w sound x y monotone 1 a crosses.inside crosses.north).1 in
        let from : y (tail w s) ≡ y (w.head a) = ap y (tail_back w sound x y monotone a crosses.inside) in
        let (c, c_in, corner, on) = faces.ends s s_in in
        let way : w.direction c ≡ 3 = sym (keeps_way w sound on.places s c s_in on.keeps) ∙ s_way in
        elim (faces.each c c_in corner) [
          | inl (box, round, at) ↦
              let left : IsOn w s (box 3) = subst (λ (e : ℕ). IsOn w s e) (sym (ap box (sym way) ∙ at)) on in
              let line = (side_leads w sound x y monotone 3 s (box 3) s_in (round.ways 3 (omega arith)) left).1 in
              let up = box_upright w sound x y monotone box round in
              let rows = side_wide w sound x y monotone 3 (box 2) s (box 3) j (round.inside 2 (omega arith)) s_in
              (round_corner w sound x y monotone 3 1 box round (λ h. omega (arith, h)) 2 (omega arith)) (round.ways 3 (omega arith)) (round.sides 3 (omega arith)) left
              (crosses.low, omega (arith, from, crosses.high)) in
              region_covered (x (w.head a) + 1) (j + 1) (x (w.head a)) j refl refl box round
              (record {
                left = omega (arith, line, level);
                right = omega (arith, line, level, up.wide);
                below = omega (arith, rows.0, up.bottom);
                above = omega (arith, rows.1, up.top);
              })
              ∙ sym (box_label box round 3 (omega arith)) ∙ sym (on_level s (box 3) s_in left)
          | inr at ↦
              let side : IsOn w s (faces.around 3) = subst (λ (e : ℕ). IsOn w s e) (sym (ap faces.around (sym way) ∙ at)) on in
              let line = (side_leads w sound x y monotone 3 s (faces.around 3) s_in (faces.outside.ways 3 (omega arith)) side).1 in
              region_off (x (w.head a) + 1) (j + 1) (x (w.head a)) j refl refl (λ h. omega (arith, h.1, line, level))
              ∙ sym (on_level s (faces.around 3) s_in side ∙ outside_label 3 (omega arith))
        ]

    -- ---- above and below a dart to the east

    north_of : (a i : ℕ) → a < w.darts → w.direction a ≡ 0 → x (tail w a) ≤ i → i < x (w.head a) → region (i + 1) (y (w.head a) + 1) ≡ label a
    north_of a i a_in a_way low high =
        let (c, c_in, corner, on) = faces.ends a a_in in
        let way : w.direction c ≡ 0 = sym (keeps_way w sound on.places a c a_in on.keeps) ∙ a_way in
        elim (faces.each c c_in corner) [
          | inl (box, round, at) ↦
              let bottom : IsOn w a (box 0) = subst (λ (e : ℕ). IsOn w a e) (sym (ap box (sym way) ∙ at)) on in
              let line = (side_leads w sound x y monotone 0 a (box 0) a_in (round.ways 0 (omega arith)) bottom).1 in
              let up = box_upright w sound x y monotone box round in
              let columns = side_wide w sound x y monotone 0 (box 3) a (box 0) (i + 1) (round.inside 3 (omega arith)) a_in
              (round_corner w sound x y monotone 3 1 box round (λ h. omega (arith, h)) 3 (omega arith)) (round.ways 0 (omega arith)) (round.sides 0 (omega arith)) bottom
              (omega (arith, low), omega (arith, high)) in
              region_covered (i + 1) (y (w.head a) + 1) i (y (w.head a)) refl refl box round
              (record {
                left = omega (arith, columns.0);
                right = omega (arith, columns.1, up.right);
                below = omega (arith, line);
                above = omega (arith, line, up.high);
              })
              ∙ sym (box_label box round 0 (omega arith)) ∙ sym (on_level a (box 0) a_in bottom)
          | inr at ↦
              let side : IsOn w a (faces.around 0) = subst (λ (e : ℕ). IsOn w a e) (sym (ap faces.around (sym way) ∙ at)) on in
              let line = (side_leads w sound x y monotone 0 a (faces.around 0) a_in (faces.outside.ways 0 (omega arith)) side).1 in
              region_off (i + 1) (y (w.head a) + 1) i (y (w.head a)) refl refl (λ h. omega (arith, h.3, line))
              ∙ sym (on_level a (faces.around 0) a_in side ∙ outside_label 0 (omega arith))
        ]

    south_of : (a i : ℕ) → a < w.darts → w.direction a ≡ 0 → x (tail w a) ≤ i → i < x (w.head a) → region (i + 1) (y (w.head a)) ≡ label (w.reverse_dart a)
    south_of a i a_in a_way low high =
        let s : ℕ = w.reverse_dart a in
        let s_in : s < w.darts = sound.tied.reverse_dart_in a a_in in
        let s_way : w.direction s ≡ 2 = sound.straight a a_in ∙ ap (λ (d : ℕ). (d + 2) % 4) a_way in
        let level : y (tail w a) ≡ y (w.head a) = (dart_goes w sound x y monotone 0 a a_in a_way).1 in
        let from : x (tail w s) ≡ x (w.head a) = ap x (tail_back w sound x y monotone a a_in) in
        let (c, c_in, corner, on) = faces.ends s s_in in
        let way : w.direction c ≡ 2 = sym (keeps_way w sound on.places s c s_in on.keeps) ∙ s_way in
        elim (faces.each c c_in corner) [
          | inl (box, round, at) ↦
              let top : IsOn w s (box 2) = subst (λ (e : ℕ). IsOn w s e) (sym (ap box (sym way) ∙ at)) on in
              let line = (side_leads w sound x y monotone 2 s (box 2) s_in (round.ways 2 (omega arith)) top).1 in
              let up = box_upright w sound x y monotone box round in
              let columns = side_wide w sound x y monotone 2 (box 1) s (box 2) i (round.inside 1 (omega arith)) s_in
              (round_corner w sound x y monotone 3 1 box round (λ h. omega (arith, h)) 1 (omega arith)) (round.ways 2 (omega arith)) (round.sides 2 (omega arith)) top
              (low, omega (arith, from, high)) in
              region_covered (i + 1) (y (w.head a)) i (y (w.head a) - 1) refl (omega (arith, line, level, up.top, up.high)) box round
              (record {
                left = omega (arith, columns.0, up.left);
                right = columns.1;
                below = omega (arith, line, level, up.top, up.high);
                above = omega (arith, line, level, up.top, up.high);
              })
              ∙ sym (box_label box round 2 (omega arith)) ∙ sym (on_level s (box 2) s_in top)
          | inr at ↦
              let side : IsOn w s (faces.around 2) = subst (λ (e : ℕ). IsOn w s e) (sym (ap faces.around (sym way) ∙ at)) on in
              let line = (side_leads w sound x y monotone 2 s (faces.around 2) s_in (faces.outside.ways 2 (omega arith)) side).1 in
              let is : outer ≡ label s = sym (on_level s (faces.around 2) s_in side ∙ outside_label 2 (omega arith)) in
              elim (cases_eq (y (w.head a)) 0) [
                | inl none ↦ region_south (i + 1) (y (w.head a)) none ∙ is
                | inr some ↦
                    region_off (i + 1) (y (w.head a)) i (y (w.head a) - 1) refl (omega (arith, some))
                    (λ h. omega (arith, h.2, line, level, some, outside_south.1)) ∙ is
              ]
        ]

    -- ---- where no dart is

    -- a dart of the row, to the north along the line i
    abbrev CrossesAt : ℕ → ℕ → Type 0
    CrossesAt i j = (a : ℕ) × Crosses w y j a × (x (w.head a) ≡ i)

    -- on the right side of a box that covers a cell such a dart stands beside the cell, or the box covers the next cell too
    covers_east : (corner : ℕ → ℕ) (i j : ℕ) → IsRound w 3 1 corner → Covers w x y corner i j → CrossesAt (i + 1) j ⊎ Covers w x y corner (i + 1) j
    covers_east corner i j round covers =
        let (a, crosses, on) = right_dart w sound x y monotone corner j round covers.below covers.above in
        let line = (side_leads w sound x y monotone 1 a (corner 1) crosses.inside (round.ways 1 (omega arith)) on).1 in
        elim (cases_eq (x (w.head a)) (i + 1)) [
          | inl at ↦ inl (a, crosses, at)
          | inr off ↦ inr (record {
            left = omega (arith, covers.left);
            right = omega (arith, covers.right, line, off);
            below = covers.below;
            above = covers.above;
          })
        ]

    covers_west : (corner : ℕ → ℕ) (i j : ℕ) → IsRound w 3 1 corner → Covers w x y corner i j →
        CrossesAt i j ⊎ ((m : ℕ) × (i ≡ m + 1) × Covers w x y corner m j)
    covers_west corner i j round covers =
        let (b, crosses, on, line) = left_dart w sound x y monotone corner j round covers.below covers.above in
        elim (cases_eq (x (w.head b)) i) [
          | inl at ↦ inl (b, crosses, at)
          | inr off ↦ inr (
            i - 1,
            omega (arith, covers.left, line, off),
            record {
              left = omega (arith, covers.left, line, off);
              right = omega (arith, covers.right);
              below = covers.below;
              above = covers.above;
            },
          )
        ]

    -- a dart of the column, to the east along the line j
    abbrev PassesAbove : ℕ → ℕ → Type 0
    PassesAbove i j = (a : ℕ) × PassesColumn w x y a (i + 1) j

    covers_north : (corner : ℕ → ℕ) (i j : ℕ) → IsRound w 3 1 corner → Covers w x y corner i j → PassesAbove i (j + 1) ⊎ Covers w x y corner i (j + 1)
    covers_north corner i j round covers =
        let up = box_upright w sound x y monotone corner round in
        let spans : Spans 2 x y i (w.head (corner 1)) (w.head (corner 2)) = (omega (arith, covers.left, up.left), covers.right) in
        let (s, s_in, on, passes) =
        side_spans w sound x y monotone 2 (corner 1) (corner 2) i (round.inside 1 (omega arith)) (round.ways 2 (omega arith)) (round.sides 2 (omega arith)) spans in
        let way : w.direction s ≡ 2 = keeps_way w sound on.places s (corner 2) s_in on.keeps ∙ round.ways 2 (omega arith) in
        let line = (side_leads w sound x y monotone 2 s (corner 2) s_in (round.ways 2 (omega arith)) on).1 in
        let level = (dart_goes w sound x y monotone 2 s s_in way).1 in
        let a : ℕ = w.reverse_dart s in
        let back : x (w.head (w.reverse_dart a)) ≡ x (w.head s) = ap x (tail_back w sound x y monotone s s_in) in
        elim (cases_eq (y (w.head a)) (j + 1)) [
          | inl at ↦ inl (
            a,
            (
              sound.tied.reverse_dart_in s s_in,
              sound.straight s s_in ∙ ap (λ (d : ℕ). (d + 2) % 4) way,
              at,
              omega (arith, back, passes.0),
              omega (arith, passes.1),
            ),
          )
          | inr off ↦ inr (record {
            left = covers.left;
            right = covers.right;
            below = omega (arith, covers.below);
            above = omega (arith, covers.above, line, level, up.top, off);
          })
        ]

    covers_south : (corner : ℕ → ℕ) (i j : ℕ) → IsRound w 3 1 corner → Covers w x y corner i j →
        PassesAbove i j ⊎ ((m : ℕ) × (j ≡ m + 1) × Covers w x y corner i m)
    covers_south corner i j round covers =
        let up = box_upright w sound x y monotone corner round in
        let spans : Spans 0 x y (i + 1) (w.head (corner 3)) (w.head (corner 0)) = (omega (arith, covers.left), omega (arith, covers.right, up.right)) in
        let (a, a_in, on, passes) =
        side_spans w sound x y monotone 0 (corner 3) (corner 0) (i + 1) (round.inside 3 (omega arith)) (round.ways 0 (omega arith)) (round.sides 0 (omega arith)) spans in
        let way : w.direction a ≡ 0 = keeps_way w sound on.places a (corner 0) a_in on.keeps ∙ round.ways 0 (omega arith) in
        let line = (side_leads w sound x y monotone 0 a (corner 0) a_in (round.ways 0 (omega arith)) on).1 in
        elim (cases_eq (y (w.head a)) j) [
          | inl at ↦ inl (a, (a_in, way, at, passes.0, passes.1))
          | inr off ↦ inr (
            j - 1,
            omega (arith, covers.below, line, off),
            record {
              left = covers.left;
              right = covers.right;
              below = omega (arith, covers.below, line, off);
              above = omega (arith, covers.above);
            },
          )
        ]

    beside_one : (i j : ℕ) → CrossesAt i j ⊎ (region i (j + 1) ≡ region (i + 1) (j + 1))
    beside_one zero j =
        elim (inside_or_not 0 j) [
          | inl (west, east, south, north) ↦
              let (corner, round, covers) = cover_some w sound x y monotone faces 0 j west east south north in
              elim (covers_west corner 0 j round covers) [
                | inl crosses ↦ inl crosses
                | inr (m, at, more) ↦ absurd (omega (arith, at))
              ]
          | inr off ↦ inr (sym (region_off (0 + 1) (j + 1) 0 j refl refl off))
        ]
    beside_one (suc i) j =
        let at_i : suc i ≡ i + 1 = omega arith in
        let at_more : suc i + 1 ≡ (i + 1) + 1 = omega arith in
        elim (inside_or_not i j) [
          | inl (west, east, south, north) ↦
              let (corner, round, covers) = cover_some w sound x y monotone faces i j west east south north in
              elim (covers_east corner i j round covers) [
                | inl (a, crosses, line) ↦ inl (a, crosses, line ∙ sym at_i)
                | inr more ↦ inr (
                    region_covered (suc i) (j + 1) i j at_i refl corner round covers
                    ∙ sym (region_covered (suc i + 1) (j + 1) (i + 1) j at_more refl corner round more)
                    )
              ]
          | inr off ↦ elim (inside_or_not (i + 1) j) [
            | inl (west, east, south, north) ↦
                let (corner, round, covers) = cover_some w sound x y monotone faces (i + 1) j west east south north in
                elim (covers_west corner (i + 1) j round covers) [
                  | inl (a, crosses, line) ↦ inl (a, crosses, line ∙ sym at_i)
                  | inr (m, at, more) ↦
                      let same : m ≡ i = omega (arith, at) in
                      absurd (off (covers_inside corner i j round (subst (λ (k : ℕ). Covers w x y corner k j) same more)))
                ]
            | inr off' ↦ inr (region_off (suc i) (j + 1) i j at_i refl off ∙ sym (region_off (suc i + 1) (j + 1) (i + 1) j at_more refl off'))
          ]
        ]

    above_one : (i j : ℕ) → PassesAbove i j ⊎ (region (i + 1) j ≡ region (i + 1) (j + 1))
    above_one i zero =
        elim (inside_or_not i 0) [
          | inl (west, east, south, north) ↦
              let (corner, round, covers) = cover_some w sound x y monotone faces i 0 west east south north in
              elim (covers_south corner i 0 round covers) [
                | inl passes ↦ inl passes
                | inr (m, at, more) ↦ absurd (omega (arith, at))
              ]
          | inr off ↦ inr (region_south (i + 1) 0 refl ∙ sym (region_off (i + 1) (0 + 1) i 0 refl refl off))
        ]
    above_one i (suc j) =
        let at_j : suc j ≡ j + 1 = omega arith in
        let at_more : suc j + 1 ≡ (j + 1) + 1 = omega arith in
        let passing : PassesAbove i (j + 1) → PassesAbove i (suc j) = λ h. subst (λ (k : ℕ). PassesAbove i k) (sym at_j) h in
        elim (inside_or_not i j) [
          | inl (west, east, south, north) ↦
              let (corner, round, covers) = cover_some w sound x y monotone faces i j west east south north in
              elim (covers_north corner i j round covers) [
                | inl passes ↦ inl (passing passes)
                | inr more ↦ inr (
                    region_covered (i + 1) (suc j) i j refl at_j corner round covers
                    ∙ sym (region_covered (i + 1) (suc j + 1) i (j + 1) refl at_more corner round more)
                    )
              ]
          | inr off ↦ elim (inside_or_not i (j + 1)) [
            | inl (west, east, south, north) ↦
                let (corner, round, covers) = cover_some w sound x y monotone faces i (j + 1) west east south north in
                elim (covers_south corner i (j + 1) round covers) [
                  | inl passes ↦ inl (passing passes)
                  | inr (m, at, more) ↦
                      let same : m ≡ j = omega (arith, at) in
                      absurd (off (covers_inside corner i j round (subst (λ (k : ℕ). Covers w x y corner i k) same more)))
                ]
            | inr off' ↦ inr (region_off (i + 1) (suc j) i j refl at_j off ∙ sym (region_off (i + 1) (suc j + 1) i (j + 1) refl at_more off'))
          ]
        ]

    -- ---- the law

    region_north : (a i j : ℕ) → PassesRow w x y a i j → (region i j ≡ label a) × (region (i + 1) j ≡ label (w.reverse_dart a))
    region_north a i zero (a_in, way, line, low, high) = absurd (omega (arith, low))
    region_north a i (suc j) (a_in, way, line, low, high) =
        let at_j : j + 1 ≡ suc j = omega arith in
        let crosses : Crosses w y j a = record { inside = a_in; north = way; low = omega (arith, low); high = omega (arith, high) } in (
          subst (λ (k : ℕ). region k (suc j) ≡ label a) line (subst (λ (k : ℕ). region (x (w.head a)) k ≡ label a) at_j (west_of a j crosses)),
          subst (λ (k : ℕ). region (k + 1) (suc j) ≡ label (w.reverse_dart a)) line
              (subst (λ (k : ℕ). region (x (w.head a) + 1) k ≡ label (w.reverse_dart a)) at_j (east_of a j crosses)),
        )

    region_east : (a i j : ℕ) → PassesColumn w x y a i j → (region i (j + 1) ≡ label a) × (region i j ≡ label (w.reverse_dart a))
    region_east a zero j (a_in, way, line, low, high) = absurd (omega (arith, low))
    region_east a (suc i) j (a_in, way, line, low, high) =
        let at_i : i + 1 ≡ suc i = omega arith in
        let from : x (tail w a) ≤ i = omega (arith, low) in
        let to : i < x (w.head a) = omega (arith, high) in (
          subst (λ (k : ℕ). region (suc i) (k + 1) ≡ label a) line
              (subst (λ (k : ℕ). region k (y (w.head a) + 1) ≡ label a) at_i (north_of a i a_in way from to)),
          subst (λ (k : ℕ). region (suc i) k ≡ label (w.reverse_dart a)) line
              (subst (λ (k : ℕ). region k (y (w.head a)) ≡ label (w.reverse_dart a)) at_i (south_of a i a_in way from to)),
        )

    region_beside : (i j : ℕ) → ((a : ℕ) × PassesRow w x y a i j) ⊎ (region i j ≡ region (i + 1) j)
    region_beside i zero = inr (region_south i 0 refl ∙ sym (region_south (i + 1) 0 refl))
    region_beside i (suc j) =
        let at_j : j + 1 ≡ suc j = omega arith in
        elim (beside_one i j) [
          | inl (a, crosses, line) ↦ inl (a, (crosses.inside, crosses.north, line, omega (arith, crosses.low), omega (arith, crosses.high)))
          | inr one ↦ inr (subst (λ (k : ℕ). region i k ≡ region (i + 1) k) at_j one)
        ]

    region_above : (i j : ℕ) → ((a : ℕ) × PassesColumn w x y a i j) ⊎ (region i j ≡ region i (j + 1))
    region_above zero j = inr refl
    region_above (suc i) j =
        let at_i : i + 1 ≡ suc i = omega arith in
        elim (above_one i j) [
          | inl (a, passes) ↦ inl (a, subst (λ (k : ℕ). PassesColumn w x y a k j) at_i passes)
          | inr one ↦ inr (subst (λ (k : ℕ). region k j ≡ region k (j + 1)) at_i one)
        ]

    pub cell_labels : (r : ℕ → ℕ → ℕ) × AreCellLabels w x y label outer r
    cell_labels = (
      λ i j. region i j,
      record {
        north = region_north;
        east = region_east;
        beside = region_beside;
        above = region_above;
        west = λ j. refl;
        south = λ i. region_south i 0 refl;
      },
    )

pub boxed_labels : (p : PlaneModel) (shape : ShapeModel) (b : BoxesModel) (x y : ℕ → ℕ) → (boxed : IsBoxed p shape b) → IsMonotone (dart_map b) x y
    → (r : ℕ → ℕ → ℕ) × AreCellLabels (dart_map b) x y boxed.enclosed.labelled.label p.outer r
boxed_labels p shape b x y boxed monotone =
    let w : DartMap = dart_map b in
    let sound = boxed.boxes.sound in
    let inner : DartMap = boxed.enclosed.enclosed_map in
    let labelled = boxed.enclosed.labelled in
    let faces : AreFaces w = are_faces w sound boxed.boxes.faces in
    let west : faces.around 1 ≡ inner.darts + 4 + 3 = rectangle_around w sound inner boxed.enclosed.rectangle faces 3 1 (omega arith) refl in
    let at : inner.darts + 4 + 3 ≡ inner.darts + 7 = omega arith in
    cell_labels w sound x y monotone faces labelled.label p.outer labelled.labelling.round
    (ap labelled.label (west ∙ at) ∙ labelled.outer 7 (omega arith))
