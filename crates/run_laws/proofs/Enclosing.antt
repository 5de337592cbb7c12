-- The rectangle round a map, and the right turn of the outer face that looks out at it.
use Rattle.std.proofs.Common.{◌≡◌, ℕ, zero, suc, ◌+◌, ◌%◌, ◌<◌, ◌≤◌, ◌∙◌, List, [], ◌∷◌, arith, subst, sym, refl, inl, inr}
use Rattle.faces.specs.Planes.{PlaneModel}
use Rattle.ortho_rep.specs.Shapes.{ShapeModel}
use Rattle.dissect.specs.DartMaps.{DartMap, IsSound, no_dart}
use Rattle.dissect.specs.Faces.{In, Below, last_of}
use Rattle.dissect.specs.Boxes.{BoxesModel, dart_map}
use Rattle.dissect.specs.Boxed.{IsBoxed, StandOn}
use Rattle.dissect.specs.Monotone.{IsMonotone}
use Rattle.dissect.specs.Rectangle.{HasRectangle, IsBridgedAt, IsInsideChain}
use Rattle.run_laws.specs.Outside.{RectangleCorners, AreRectangleCorners, LiesBeside, LooksOut}
use Rattle.run_laws.proofs.Straight.{Goes, path_goes, path_passes}

-- what is on a list that stands on another is on the other
in_stands : (a : ℕ) (xs ys : List ℕ) → StandOn xs ys → In a xs → In a ys
in_stands a [] ys stands here = absurd here
in_stands a (x ∷ xs) [] stands here = absurd stands
in_stands a (x ∷ xs) (y ∷ ys) (inl on) (inl at) = inl (at ∙ on.0)
in_stands a (x ∷ xs) (y ∷ ys) (inl on) (inr there) = inr (in_stands a xs ys on.1 there)
in_stands a (x ∷ xs) (y ∷ ys) (inr on) here = inr (in_stands a (x ∷ xs) ys on here)

-- the corners, where the map has v vertices
abbrev corners_of : ℕ → RectangleCorners
corners_of v = record { south_west = v + 3; south_east = v + 0; north_east = v + 1; north_west = v + 2 }

module _ (inner w : DartMap) (x y : ℕ → ℕ) (sound : IsSound w) (darts_fit : w.darts ≤ no_dart) (monotone : IsMonotone w x y) (has : HasRectangle inner w) where
  -- side k goes from the corner before it to its own
  side_goes : (k from : ℕ) → k < 4 → inner.vertices + (k + 3) % 4 ≡ from → Goes k x y from (inner.vertices + k)
  side_goes k from few is =
      subst (λ (u : ℕ). Goes k x y u (inner.vertices + k)) (has.corners k few ∙ is)
      (subst (λ (u : ℕ). Goes k x y (w.head (inner.darts + 4 + k)) u) (has.inside k few)
      (path_goes w x y sound monotone k (inner.darts + k) (inner.darts + 4 + k) (has.sides k few).there (has.directions k few) few))

  are_corners : AreRectangleCorners x y (corners_of inner.vertices)
  are_corners =
      let v : ℕ = inner.vertices in
      let bottom = side_goes 0 (v + 3) (omega arith) refl in
      let right = side_goes 1 (v + 0) (omega arith) refl in
      let top = side_goes 2 (v + 1) (omega arith) refl in
      let left = side_goes 3 (v + 2) (omega arith) refl in
      record {
        west = left.1;
        east = sym right.1;
        south = sym bottom.1;
        north = sym top.1;
        has_width = bottom.0;
        has_height = left.0;
      }

  last_in : (n a : ℕ) (rest : List ℕ) → a < n → Below n rest → last_of a rest < n
  last_in n a [] a_in below = a_in
  last_in n a (c ∷ cs) a_in below = last_in n c cs below.0 below.1

  module _ (right : ℕ) (bridged : IsBridgedAt inner right w) where
    -- the bridge goes straight from the turn to its place on the side
    bridge_goes : (k : ℕ) → k < 4 → w.direction (inner.darts + 10) ≡ k → Goes k x y (w.head right) (w.head (inner.darts + 8))
    bridge_goes k few way =
        subst (λ (u : ℕ). Goes k x y u (w.head (inner.darts + 8))) bridged.from
        (subst (λ (u : ℕ). Goes k x y (w.head (inner.darts + 11)) u) bridged.to
        (path_goes w x y sound monotone k (inner.darts + 10) (inner.darts + 11) bridged.chain.there way few))

    -- and that place lies between the corners of the side
    foot_between : (k from : ℕ) → k < 4 → inner.vertices + (k + 3) % 4 ≡ from → k ≡ bridged.side
        → Goes k x y from (w.head (inner.darts + 8)) × Goes k x y (w.head (inner.darts + 8)) (inner.vertices + k)
    foot_between k from few is at =
        let on : IsInsideChain w (inner.darts + k) (inner.darts + 8) =
        subst (λ (j : ℕ). IsInsideChain w (inner.darts + j) (inner.darts + 8)) (sym at) bridged.on_side in
        let (to, further) = path_passes w x y sound monotone k (inner.darts + k) (inner.darts + 4 + k) (inner.darts + 8) darts_fit (has.sides k few).there (has.directions k few) few on in (
          subst (λ (u : ℕ). Goes k x y u (w.head (inner.darts + 8))) (has.corners k few ∙ is) to,
          subst (λ (u : ℕ). Goes k x y (w.head (inner.darts + 8)) u) (has.inside k few) further,
        )

    looks : (side : ℕ) → side ≡ bridged.side → side < 4 → LiesBeside x y (corners_of inner.vertices) (w.head (inner.darts + 8)) (w.head right)
    looks side at few =
        let quarter : w.direction (inner.darts + 10) < 4 =
        sound.meeting.quarter (inner.darts + 10)
        (subst (λ (e : ℕ). e < w.darts) bridged.chain.there.path.ends
        (last_in w.darts bridged.chain.there.first bridged.chain.there.rest bridged.chain.there.path.first_in bridged.chain.there.path.rest_in)) in
        by_side side at few quarter
      where
        by_side : (side : ℕ) → side ≡ bridged.side → side < 4 → w.direction (inner.darts + 10) < 4
            → LiesBeside x y (corners_of inner.vertices) (w.head (inner.darts + 8)) (w.head right)
        by_side zero at few quarter =
            let (to, on) = foot_between 0 (inner.vertices + 3) (omega arith) refl at in
            let bridge = bridge_goes 3 (omega arith) (omega (arith, bridged.meets, at, quarter)) in
            inl ((to.0, on.0), sym to.1, sym bridge.1, bridge.0)
        by_side (suc zero) at few quarter =
            let (to, on) = foot_between 1 (inner.vertices + 0) (omega arith) refl at in
            let bridge = bridge_goes 0 (omega arith) (omega (arith, bridged.meets, at, quarter)) in
            inr (inl ((to.0, on.0), sym to.1, sym bridge.1, bridge.0))
        by_side (suc (suc zero)) at few quarter =
            let (to, on) = foot_between 2 (inner.vertices + 1) (omega arith) refl at in
            let bridge = bridge_goes 1 (omega arith) (omega (arith, bridged.meets, at, quarter)) in
            inr (inr (inl ((on.0, to.0), sym to.1, sym bridge.1, bridge.0)))
        by_side (suc (suc (suc zero))) at few quarter =
            let (to, on) = foot_between 3 (inner.vertices + 2) (omega arith) refl at in
            let bridge = bridge_goes 2 (omega arith) (omega (arith, bridged.meets, at, quarter)) in
            inr (inr (inr ((on.0, to.0), sym to.1, sym bridge.1, bridge.0)))
        by_side (suc (suc (suc (suc k)))) at few quarter = absurd (omega (arith, few))

pub looks_out : (p : PlaneModel) (shape : ShapeModel) (b : BoxesModel) → IsBoxed p shape b → LooksOut p shape b
looks_out p shape b boxed =
    let e = boxed.enclosed in
    let n : ℕ = e.enclosed_map.darts in
    let sound = boxed.boxes.sound in
    let darts_fit = boxed.boxes.few_darts in
    record {
      enclosed_map = e.enclosed_map;
      of_shape = e.of_shape;
      heads = e.heads;
      directions = e.directions;
      parts = λ d a d_in part.
          let there = boxed.paths.paths d d_in in
          record {
            first = there.first;
            rest = there.rest;
            path = there.path;
            on = in_stands a (part.first ∷ part.rest) (there.first ∷ there.rest)
                (e.through d part.first there.first part.rest there.rest d_in part.path there.path) part.on;
          };
      right = e.right;
      inside = e.right_in;
      turns = e.turns_right;
      on_outer = λ s closed here d d_in outer.
          e.of_shape.faces.turns.face_numbers.least s closed e.right d e.right_in (omega (arith, d_in, e.of_shape.kept.few))
          (e.outer ∙ sym outer ∙ sym (e.of_shape.faces.faces d d_in)) here;
      corners = corners_of e.enclosed_map.vertices;
      foot = (dart_map b).head (n + 8);
      rectangle = λ x y monotone. are_corners e.enclosed_map (dart_map b) x y sound darts_fit monotone e.rectangle;
      before = λ x y monotone.
          subst (λ (u : ℕ). LiesBeside x y (corners_of e.enclosed_map.vertices) ((dart_map b).head (n + 8)) u) (e.heads e.right e.right_in)
          (looks e.enclosed_map (dart_map b) x y sound darts_fit monotone e.rectangle e.right e.bridge e.bridge.side refl e.bridge.side_in);
    }
