-- The cells of the rectangle round the boxes of a shape.
use Rattle.std.proofs.Common.{◌≡◌, ℕ, ◌+◌, ◌%◌, ◌<◌, ◌∙◌, List, [], ◌∷◌, arith, sym, ap, refl, inl, inr, eqb}
use Rattle.std.proofs.lemmas.Bool.{cases_eq, eq-eqb, ne_eqb, cond-true, cond-false}
use Rattle.faces.specs.Planes.{PlaneModel}
use Rattle.ortho_rep.specs.Shapes.{ShapeModel}
use Rattle.dissect.specs.DartMaps.{DartMap, IsSound}
use Rattle.dissect.specs.Faces.{Below, last_of}
use Rattle.dissect.specs.Paths.{HasPath, turn_to, path_quarters}
use Rattle.dissect.proofs.StraightPaths.{straight_on}
use Rattle.dissect.specs.Boxes.{BoxesModel, dart_map}
use Rattle.dissect.specs.Boxed.{IsBoxed}
use Rattle.dissect.specs.Monotone.{IsMonotone}
use Rattle.dissect.specs.Rectangle.{HasRectangle}
use Rattle.drawing_laws.specs.Cells.{CoversCell, IsCoveredOnce, IsWithin}
use Rattle.drawing_laws.proofs.Sides.{Goes}
use Rattle.drawing_laws.proofs.Rounds.{IsRound, AreFaces, are_faces, corners_of, left_round}
use Rattle.drawing_laws.proofs.Rows.{Covers, box_upright, round_goes, cover_some, cover_one}

-- ---- straight chains

module _ (w : DartMap) (sound : IsSound w) where
  -- where the walk from a to b does not turn, and goes on without a turn
  pub no_turn : (a b : ℕ) (bs : List ℕ) → path_quarters w a (b ∷ bs) ≡ [] → (turn_to w a b ≡ 0) × (path_quarters w b bs ≡ [])
  no_turn a b bs straight =
      let t : ℕ = turn_to w a b in
      elim (cases_eq t 0) [
        | inl none ↦ (none, sym (cond-true {A = List ℕ} (eqb t 0) (path_quarters w b bs) (t ∷ path_quarters w b bs) (eq-eqb t 0 none)) ∙ straight)
        | inr some ↦
            let first : t ∷ path_quarters w b bs ≡ [] =
            sym (cond-false {A = List ℕ} (eqb t 0) (path_quarters w b bs) (t ∷ path_quarters w b bs) (ne_eqb t 0 some)) ∙ straight in
            absurd (cc first)
      ]

  chain_way : (a : ℕ) (rest : List ℕ) → a < w.darts → Below w.darts rest → path_quarters w a rest ≡ [] → w.direction (last_of a rest) ≡ w.direction a
  chain_way a [] a_in below straight = refl
  chain_way a (b ∷ bs) a_in below straight =
      let (none, further) = no_turn a b bs straight in
      chain_way b bs below.0 below.1 further
      ∙ straight_on w a b sound.straight (sound.meeting.quarter a a_in) (sound.meeting.quarter b below.0) below.0 none

  -- the way back along a straight chain has the opposite direction
  back_way : (end back : ℕ) → HasPath w end back [] → w.direction back ≡ (w.direction end + 2) % 4
  back_way end back chain =
      ap w.direction (sym chain.back) ∙ sound.straight chain.first chain.path.first_in
      ∙ ap (λ (d : ℕ). (d + 2) % 4)
      (sym (chain_way chain.first chain.rest chain.path.first_in chain.path.rest_in chain.turns) ∙ ap w.direction chain.path.ends)

  -- ---- the rectangle and the outside

  module _ (inner : DartMap) (has : HasRectangle inner w) (faces : AreFaces w) where
    -- round the outside the walk goes along the sides of the rectangle
    pub rectangle_around : (k m : ℕ) → k < 4 → (k + 2) % 4 ≡ m → faces.around m ≡ inner.darts + 4 + k
    rectangle_around k m few is =
        let a : ℕ = inner.darts + 4 + k in
        let four = (has.outside k few).four in
        let a_in : a < w.darts = outside_in k few in
        let way : w.direction a ≡ m = back_way (inner.darts + k) a (has.sides k few).there ∙ ap (λ (d : ℕ). (d + 2) % 4) (has.directions k few) ∙ is in
        elim (faces.each a a_in (λ e. omega (arith, e, four.angle_first))) [
          | inl (box, round, there) ↦
              absurd (omega (arith, four.angle_first, ap w.angle there, round.angles (w.direction a) (sound.meeting.quarter a a_in)))
          | inr there ↦ ap faces.around (sym way) ∙ there
        ]
      where
        outside_in : (k : ℕ) → k < 4 → inner.darts + 4 + k < w.darts
        outside_in k few =
            let chain = (has.sides k few).there in
            omega (arith, chain.back, sound.tied.reverse_dart_in chain.first chain.path.first_in)

    -- the outside arrives at each corner of the rectangle
    rectangle_corner : (k m v : ℕ) → k < 4 → (k + 2) % 4 ≡ m → inner.vertices + (k + 3) % 4 ≡ v → w.head (faces.around m) ≡ v
    rectangle_corner k m v few is at = ap w.head (rectangle_around k m few is) ∙ has.corners k few ∙ at

-- ---- cells

module _ (w : DartMap) (sound : IsSound w) (x y : ℕ → ℕ) (monotone : IsMonotone w x y) where
  -- the box with an upper right corner, by its four corners
  box_covers : (c i j : ℕ) → CoversCell w x y c i j → (corner : ℕ → ℕ) × IsRound w 3 1 corner × Covers w x y corner i j × (corner 1 ≡ c)
  box_covers c i j covers =
      let box = covers.box in
      let corner = corners_of w c box.four in
      let round = left_round w sound c box.inside box.four box.north in
      let up = box_upright w sound x y monotone corner round in (
        corner,
        round,
        record {
          left = omega (arith, covers.left, up.left);
          right = covers.right;
          below = covers.below;
          above = covers.above;
        },
        refl,
      )

  covers_box : (corner : ℕ → ℕ) (i j : ℕ) → IsRound w 3 1 corner → Covers w x y corner i j → CoversCell w x y (corner 1) i j
  covers_box corner i j round covers =
      let up = box_upright w sound x y monotone corner round in
      record {
        box = record {
          inside = round.inside 1 (omega arith);
          north = round.ways 1 (omega arith);
          four = record {
            second = corner 2;
            third = corner 3;
            fourth = corner 0;
            to_second = round.sides 2 (omega arith);
            to_third = round.sides 3 (omega arith);
            to_fourth = round.sides 0 (omega arith);
            back = round.sides 1 (omega arith);
            angle_first = round.angles 1 (omega arith);
            angle_second = round.angles 2 (omega arith);
            angle_third = round.angles 3 (omega arith);
            angle_fourth = round.angles 0 (omega arith);
          };
        };
        right = covers.right;
        above = covers.above;
        left = omega (arith, covers.left, up.left);
        below = covers.below;
      }

  covered_within : (inner : DartMap) (has : HasRectangle inner w) (faces : AreFaces w) (i j : ℕ)
      → IsWithin x y (inner.vertices + 3) (inner.vertices + 1) i j → IsCoveredOnce w x y i j
  covered_within inner has faces i j within =
      let around = faces.around in
      let south_west : w.head (around 2) ≡ inner.vertices + 3 = rectangle_corner w sound inner has faces 0 2 (inner.vertices + 3) (omega arith) refl refl in
      let north_east : w.head (around 0) ≡ inner.vertices + 1 = rectangle_corner w sound inner has faces 2 0 (inner.vertices + 1) (omega arith) refl refl in
      let west : Goes 1 x y (w.head (around 2)) (w.head (around 1)) = round_goes w sound x y monotone 1 3 around faces.outside 1 (omega arith) in
      let south : Goes 2 x y (w.head (around 3)) (w.head (around 2)) = round_goes w sound x y monotone 1 3 around faces.outside 2 (omega arith) in
      let east : Goes 3 x y (w.head (around 0)) (w.head (around 3)) = round_goes w sound x y monotone 1 3 around faces.outside 3 (omega arith) in
      let (corner, round, covers) =
      cover_some w sound x y monotone faces i j
      (omega (arith, within.left, west.1, ap x south_west))
      (omega (arith, within.right, east.1, ap x north_east))
      (omega (arith, within.below, south.1, ap y south_west))
      (omega (arith, within.above, ap y north_east)) in
      record {
        corner = corner 1;
        covers = covers_box corner i j round covers;
        only = λ c other.
            let (corner', round', covers', at) = box_covers c i j other in
            sym at ∙ cover_one w sound x y monotone faces corner' corner i j round' round covers' covers 1 (omega arith);
      }

pub covered_once : (p : PlaneModel) (shape : ShapeModel) (b : BoxesModel) (x y : ℕ → ℕ) → (boxed : IsBoxed p shape b) → IsMonotone (dart_map b) x y
    → (i j : ℕ) → IsWithin x y (boxed.enclosed.enclosed_map.vertices + 3) (boxed.enclosed.enclosed_map.vertices + 1) i j → IsCoveredOnce (dart_map b) x y i j
covered_once p shape b x y boxed monotone i j within =
    let sound = boxed.boxes.sound in
    covered_within (dart_map b) sound x y monotone boxed.enclosed.enclosed_map boxed.enclosed.rectangle (are_faces (dart_map b) sound boxed.boxes.faces) i j within
