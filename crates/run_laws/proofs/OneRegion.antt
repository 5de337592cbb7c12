-- Two cells of one face are joined, and joined cells are of one face.
use Rattle.std.proofs.Common.{◌≡◌, ℕ, zero, suc, ◌+◌, ◌-◌, ◌<◌, ◌⊎◌, ◌∙◌, List, length, reverse, arith, subst, sym, ap, refl, inl, inr, true, Bool, eqb}
use Rattle.std.proofs.lemmas.Bool.{cases_eq, cases_lt, eq-eqb, eqb-true}
use Rattle.std.proofs.lemmas.List.{length-reverse}
use Rattle.geometry.specs.declared.direction.Direction.{Direction}
use Rattle.geometry.specs.declared.direction.Direction.TheVariants.{East, North, West, South}
use Rattle.geometry.specs.Directions.{right_of, opposite_of, quarters}
use Rattle.faces.specs.Planes.{PlaneModel, IsPlane, darts, vertices, tail, reverse_dart, face_at}
use Rattle.faces.proofs.Ends.{plane_ends}
use Rattle.ortho_rep.specs.declared.grid_points.Point.{Point}
use Rattle.ortho_rep.specs.Points.{PointsModel, vertex_point}
use Rattle.ortho_rep.specs.Shapes.{ShapeModel, angle_at, turns_at}
use Rattle.ortho_rep.specs.Representation.{Rep}
use Rattle.ortho_rep.specs.Edges.{is_lesser}
use Rattle.drawing_check.specs.Paths.{path_along, paths, dart_path, point_of}
use Rattle.drawing_check.specs.Draws.{AreOnAxes, MeetNowhere, TurnAsSaid, direction_between}
use Rattle.drawing_check.specs.Regions.{GoesNorth, PassesNorth, IsRegionMap}
use Rattle.drawing_laws.proofs.DartPaths.{backwards, lesser_is, greater_is, by_edge}
use Rattle.run_laws.specs.Cells.{IsUndivided, AreJoined}
use Rattle.run_laws.proofs.CellSides.{RunsBy, part_axis}
use Rattle.run_laws.proofs.Along.{starts, cell, part_cells, path_cells}
use Rattle.run_laws.proofs.Joining.{start, lesser_first, lesser_right, start_face}

-- ---- a search among the first n

some_or_none : (n : ℕ) (P : ℕ → Type 0) → ((k : ℕ) → k < n → P k ⊎ (P k → ⊥)) → ((k : ℕ) × (k < n) × P k) ⊎ ((k : ℕ) → k < n → P k → ⊥)
some_or_none zero P decide = inr (λ k l _. absurd (omega (arith, l)))
some_or_none (suc n) P decide =
    elim (some_or_none n P (λ k l. decide k (omega (arith, l)))) [
      | inl (k, l, here) ↦ inl (k, omega (arith, l), here)
      | inr none ↦ elim (decide n (omega arith)) [
        | inl here ↦ inl (n, omega arith, here)
        | inr off ↦ inr (λ k l here. elim (cases_eq k n) [
          | inl at ↦ off (subst P at here)
          | inr other ↦ none k (omega (arith, l, other)) here
        ])
      ]
    ]

goes_north_or_not : (path : List Point) (k i j : ℕ) → GoesNorth path k i j ⊎ (GoesNorth path k i j → ⊥)
goes_north_or_not path k i j =
    elim (cases_lt (k + 1) (length path)) [
      | inr off ↦ inr (λ g. omega (arith, g.0, off))
      | inl inside ↦ elim (cases_eq (point_of path k).x i) [
        | inr off ↦ inr (λ g. off g.1)
        | inl from ↦ elim (cases_eq (point_of path (k + 1)).x i) [
          | inr off ↦ inr (λ g. off g.2)
          | inl to ↦ elim (cases_lt (point_of path k).y j) [
            | inr off ↦ inr (λ g. omega (arith, g.3, off))
            | inl low ↦ elim (cases_lt (point_of path (k + 1)).y j) [
              | inl off ↦ inr (λ g. omega (arith, g.4, off))
              | inr high ↦ inl (inside, from, to, low, high)
            ]
          ]
        ]
      ]
    ]

-- some dart passes the side, or none
passes_or_not : (p : PlaneModel) (points : PointsModel) (i j : ℕ) → ((d : ℕ) × PassesNorth p points d i j) ⊎ ((d : ℕ) → PassesNorth p points d i j → ⊥)
passes_or_not p points i j =
    elim (some_or_none (darts p) (λ d. PassesNorth p points d i j) (λ d d_in. dart d d_in)) [
      | inl (d, d_in, passes) ↦ inl (d, passes)
      | inr none ↦ inr (λ d passes. none d passes.1 passes)
    ]
  where
    dart : (d : ℕ) → d < darts p → PassesNorth p points d i j ⊎ (PassesNorth p points d i j → ⊥)
    dart d d_in =
        let path : List Point = dart_path p points d in
        elim (some_or_none (length path) (λ k. GoesNorth path k i j) (λ k _. goes_north_or_not path k i j)) [
          | inl (k, l, goes) ↦ inl (k, d_in, goes)
          | inr none ↦ inr (λ passes. none passes.0 (omega (arith, passes.2.0)) passes.2)
        ]

-- ---- joined cells are of one face

pub joined_face : (p : PlaneModel) (points : PointsModel) (r : ℕ → ℕ → ℕ) → IsRegionMap p points r
    → (i j k l : ℕ) → AreJoined p points i j k l → r i j ≡ r k l
joined_face p points r map i j k l joined =
    let undivided : IsUndivided p points (λ x y. eqb (r x y) (r k l)) = record {
      beside = λ x y none. ap (λ (f : ℕ). eqb f (r k l)) (map.beside x y none);
      above = λ x y none. ap (λ (f : ℕ). eqb f (r k l)) (map.above x y none);
    } in
    eqb-true (r i j) (r k l) (joined (λ x y. eqb (r x y) (r k l)) undivided ∙ eq-eqb (r k l) (r k l) refl)

-- ---- cells of one face are joined

-- what goes south from the end of a part goes north from its beginning
upward : (way : Direction) (a b : Point) → RunsBy way a b a → South ≡ opposite_of way → a.y < b.y
upward East a b runs same = absurd (omega (arith, ap quarters same))
upward North a b (one, two, inl is) same = is.1
upward North a b (one, two, inr is) same = absurd (omega (arith, is.1))
upward West a b runs same = absurd (omega (arith, ap quarters same))
upward South a b runs same = absurd (omega (arith, ap quarters same))

downward : (way : Direction) (a b : Point) → RunsBy way a b a → South ≡ way → b.y < a.y
downward East a b runs same = absurd (omega (arith, ap quarters same))
downward North a b runs same = absurd (omega (arith, ap quarters same))
downward West a b runs same = absurd (omega (arith, ap quarters same))
downward South a b (one, two, inl is) same = absurd (omega (arith, is.0))
downward South a b (one, two, inr is) same = is.0

module _ (p : PlaneModel) (points : PointsModel) (plane : IsPlane p) (axes : AreOnAxes (paths p points)) (apart : MeetNowhere points (paths p points))
    (whole : length points.vertices ≡ vertices p) (s : ℕ → ℕ → Bool) (undivided : IsUndivided p points s)
    (shape : ShapeModel) (said : TurnAsSaid p shape points) (rep : Rep p (angle_at shape) (turns_at shape)) where
  abbrev begin : ℕ → Bool
  begin d = start p points plane axes apart whole s undivided d

  abbrev corner_at : Point → Direction → Bool
  corner_at q w = cell p points plane axes apart whole s undivided q w

  -- the cells at a side to the south are those where the edge's darts begin
  part_sides : (e m : ℕ) (q : Point) → e < darts p → is_lesser p e ≡ true → suc m < length (path_along p points e)
      → RunsBy South (point_of (path_along p points e) m) (point_of (path_along p points e) (suc m)) q
      → (((point_of (path_along p points e) (suc m)).y < (point_of (path_along p points e) m).y) × (s (q.x + 1) q.y ≡ begin e) × (s q.x q.y ≡ begin (reverse_dart p e)))
      ⊎ (((point_of (path_along p points e) m).y < (point_of (path_along p points e) (suc m)).y) × (s q.x q.y ≡ begin e) × (s (q.x + 1) q.y ≡ begin (reverse_dart p e)))
  part_sides e m q e_in lesser inside runs =
      let a : Point = point_of (path_along p points e) m in
      let b : Point = point_of (path_along p points e) (suc m) in
      let way : Direction = direction_between a b in
      let from = starts a b (part_axis p points plane axes apart whole e m e_in lesser inside) in
      let before = path_cells p points plane axes apart whole s undivided shape said e m e_in lesser inside in
      let first = lesser_first p points plane axes apart whole s undivided shape said rep e lesser in
      let right = lesser_right p points plane axes apart whole s undivided shape said rep e e_in lesser in
      let left_start = before.0 ∙ ap (corner_at (vertex_point points (tail p e))) (sym first) in
      let right_start = before.1 ∙ ap (λ (w : Direction). corner_at (vertex_point points (tail p e)) (right_of w)) (sym first) ∙ right in
      elim (part_cells p points plane axes apart whole s undivided way South e m q e_in lesser inside from runs) [
        | inl is ↦ inl (downward way a b from is.0, is.1.0 ∙ left_start, is.1.1 ∙ right_start)
        | inr is ↦ inr (upward way a b from is.0, is.1.1 ∙ left_start, is.1.0 ∙ right_start)
      ]

  north_cells : (d i j : ℕ) → PassesNorth p points d i j → (s i j ≡ begin d) × (s (i + 1) j ≡ begin (reverse_dart p d))
  north_cells d i j (k, d_in, goes) =
      let ends = plane_ends p plane in
      let q : Point = record { x = i; y = j } in
      let one : k + 1 ≡ suc k = omega arith in
      elim (by_edge p plane d d_in) [
        | inl lesser ↦
            let path : List Point = path_along p points d in
            let on : GoesNorth path k i j = subst (λ (c : List Point). GoesNorth c k i j) (lesser_is p points d lesser) goes in
            let to : (point_of path (suc k)).x ≡ i = ap (λ (n : ℕ). (point_of path n).x) (sym one) ∙ on.2 in
            let high : (point_of path (suc k)).y ≡ (point_of path (k + 1)).y = ap (λ (n : ℕ). (point_of path n).y) (sym one) in
            elim (part_sides d k q d_in lesser (omega (arith, on.0)) (on.1, to, inl (on.3, omega (arith, on.4, high)))) [
              | inl down ↦ absurd (omega (arith, down.0, on.3, on.4, high))
              | inr up ↦ (up.1, up.2)
            ]
        | inr (greater, lesser) ↦
            let e : ℕ = reverse_dart p d in
            let path : List Point = path_along p points e in
            let on : GoesNorth (reverse path) k i j = subst (λ (c : List Point). GoesNorth c k i j) (greater_is p points d greater) goes in
            let within : k + 1 < length path = omega (arith, on.0, length-reverse path) in
            let m : ℕ = length path - 1 - (k + 1) in
            let first : point_of (reverse path) k ≡ point_of path (suc m) =
            backwards path k (omega (arith, within)) ∙ ap (λ (c : ℕ). point_of path c) (let same : length path - 1 - k ≡ suc m = omega (arith, within) in same) in
            let second : point_of (reverse path) (k + 1) ≡ point_of path m = backwards path (k + 1) within in
            let xb : (point_of path (suc m)).x ≡ i = ap (λ (c : Point). c.x) (sym first) ∙ on.1 in
            let xa : (point_of path m).x ≡ i = ap (λ (c : Point). c.x) (sym second) ∙ on.2 in
            let yb : (point_of path (suc m)).y ≡ (point_of (reverse path) k).y = ap (λ (c : Point). c.y) (sym first) in
            let ya : (point_of path m).y ≡ (point_of (reverse path) (k + 1)).y = ap (λ (c : Point). c.y) (sym second) in
            elim (part_sides e m q (ends.reverse_dart_in_range d d_in) lesser (omega (arith, within)) (xa, xb, inr (omega (arith, yb, on.3), omega (arith, ya, on.4)))) [
              | inl down ↦ (down.2 ∙ ap begin (ends.reverse_dart_back d d_in), down.1)
              | inr up ↦ absurd (omega (arith, up.0, ya, yb, on.3, on.4))
            ]
      ]

  -- ---- west of all

  column : (j : ℕ) → s 0 j ≡ s 0 0
  column zero = refl
  column (suc j) =
      let at : suc j ≡ j + 1 = omega arith in
      ap (λ (y : ℕ). s 0 y) at ∙ sym (undivided.above 0 j (λ d passes. omega (arith, passes.2.3))) ∙ column j

  module _ (r : ℕ → ℕ → ℕ) (map : IsRegionMap p points r) where
    -- a cell is joined to those west of all, or to the one where a dart of its face begins
    cell_is : (i j : ℕ) → ((s i j ≡ s 0 j) × (r i j ≡ p.outer)) ⊎ ((d : ℕ) × (d < darts p) × (face_at p d ≡ r i j) × (begin d ≡ s i j))
    cell_is zero j = inl (refl, map.west j)
    cell_is (suc i) j =
        let at : i + 1 ≡ suc i = omega arith in
        subst (λ (c : ℕ). ((s c j ≡ s 0 j) × (r c j ≡ p.outer)) ⊎ ((d : ℕ) × (d < darts p) × (face_at p d ≡ r c j) × (begin d ≡ s c j))) at
        (elim (passes_or_not p points i j) [
          | inl (d, passes) ↦ inr (
            reverse_dart p d,
            (plane_ends p plane).reverse_dart_in_range d passes.1,
            sym (map.north d i j passes).1,
            sym (north_cells d i j passes).1,
          )
          | inr none ↦ elim (cell_is i j) [
            | inl far ↦ inl (sym (undivided.beside i j none) ∙ far.0, sym (map.beside i j none) ∙ far.1)
            | inr (d, d_in, face, begins) ↦ inr (d, d_in, face ∙ map.beside i j none, begins ∙ undivided.beside i j none)
          ]
        ])

    -- and where an edge is met on the way west, some dart of the outer face begins at a cell of those
    west_end : (i j : ℕ) → (s i j ≡ s 0 j) × (r i j ≡ p.outer) ⊎ ((d : ℕ) × (d < darts p) × (face_at p d ≡ p.outer) × (begin d ≡ s 0 j))
    west_end zero j = inl (refl, map.west j)
    west_end (suc i) j =
        let at : i + 1 ≡ suc i = omega arith in
        elim (west_end i j) [
          | inr found ↦ inr found
          | inl far ↦ elim (passes_or_not p points i j) [
            | inl (d, passes) ↦ inr (d, passes.1, sym (map.north d i j passes).0 ∙ far.1, sym (north_cells d i j passes).0 ∙ far.0)
            | inr none ↦
                inl (subst (λ (c : ℕ). (s c j ≡ s 0 j) × (r c j ≡ p.outer)) at
                (sym (undivided.beside i j none) ∙ far.0, sym (map.beside i j none) ∙ far.1))
          ]
        ]

    face_starts : (d e : ℕ) → d < darts p → e < darts p → face_at p d ≡ face_at p e → begin d ≡ begin e
    face_starts d e d_in e_in same = start_face p points plane axes apart whole s undivided shape said rep d e d_in e_in same

    -- a cell of the outer face is joined to those west of all
    outer_cell : (i j : ℕ) → r i j ≡ p.outer → s i j ≡ s 0 j
    outer_cell i j outer =
        elim (cell_is i j) [
          | inl far ↦ far.0
          | inr (d, d_in, face, begins) ↦ elim (west_end i j) [
            | inl far ↦ far.0
            | inr (e, e_in, face', begins') ↦ sym begins ∙ face_starts d e d_in e_in (face ∙ outer ∙ sym face') ∙ begins'
          ]
        ]

    pub same_face : (i j k l : ℕ) → r i j ≡ r k l → s i j ≡ s k l
    same_face i j k l same =
        elim (cell_is i j) [
          | inl far ↦ far.0 ∙ column j ∙ sym (column l) ∙ sym (outer_cell k l (sym same ∙ far.1))
          | inr (d, d_in, face, begins) ↦ elim (cell_is k l) [
            | inl far ↦ outer_cell i j (same ∙ far.1) ∙ column j ∙ sym (column l) ∙ sym far.0
            | inr (e, e_in, face', begins') ↦ sym begins ∙ face_starts d e d_in e_in (face ∙ same ∙ sym face') ∙ begins'
          ]
        ]
