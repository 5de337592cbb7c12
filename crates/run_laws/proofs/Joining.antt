-- The cells of one face are joined.
use Rattle.std.proofs.Common.{◌≡◌, ℕ, zero, suc, ◌+◌, ◌-◌, ◌%◌, ◌<◌, ◌≤◌, ◌∙◌, length, arith, sym, ap, refl, inl, inr, true, Bool}
use Rattle.std.proofs.lemmas.Bool.{cases_Bool, both_ways}
use Rattle.geometry.specs.declared.direction.Direction.{Direction}
use Rattle.geometry.specs.declared.direction.Direction.TheVariants.{East, North, West, South}
use Rattle.geometry.specs.Directions.{left_of, right_of, opposite_of, quarters, left_quarters}
use Rattle.geometry.proofs.Quarters.{quarters_of_lefts}
use Rattle.faces.specs.Planes.{PlaneModel, IsPlane, darts, vertices, tail, head, next, reverse_dart, face_at}
use Rattle.faces.proofs.Ends.{plane_ends}
use Rattle.ortho_rep.specs.declared.grid_points.Point.{Point}
use Rattle.ortho_rep.specs.Points.{PointsModel, vertex_point, corners_at}
use Rattle.ortho_rep.specs.Shapes.{ShapeModel, angle_at, turns_at}
use Rattle.ortho_rep.specs.Representation.{Rep}
use Rattle.ortho_rep.specs.Edges.{is_lesser, edge_number}
use Rattle.dissect.proofs.Crossings.{arrives_next, arrives_one, arrives_there}
use Rattle.drawing_check.specs.Paths.{path_along, paths, point_of}
use Rattle.drawing_check.specs.Draws.{AreOnAxes, MeetNowhere, TurnAsSaid, direction_between, leaving}
use Rattle.drawing_check.proofs.Leaving.{leaving-lesser, leaving-reverse_dart}
use Rattle.drawing_laws.proofs.DartPaths.{by_edge}
use Rattle.run_laws.specs.Cells.{IsUndivided}
use Rattle.run_laws.proofs.Sectors.{AreRound, sector_free}
use Rattle.run_laws.proofs.LeastCorners.{path_long}
use Rattle.run_laws.proofs.CellSides.{IsFree, across, none_free, part_axis, last_point, vertex_sides}
use Rattle.run_laws.proofs.Along.{starts, cell, back_way, end_cells, path_cells}

-- ---- directions

quarters_few : (way : Direction) → quarters way < 4
quarters_few East = omega arith
quarters_few North = omega arith
quarters_few West = omega arith
quarters_few South = omega arith

right_left : (way : Direction) → right_of (left_of way) ≡ way
right_left East = refl
right_left North = refl
right_left West = refl
right_left South = refl

right_back : (way : Direction) → right_of (opposite_of way) ≡ left_of way
right_back East = refl
right_back North = refl
right_back West = refl
right_back South = refl

-- round a sector, from the side `way`
sector : (g : Direction → Bool) (way : Direction) (m : ℕ) → ((k : ℕ) → 1 ≤ k → k ≤ m → g (right_of (left_quarters k way)) ≡ g (left_quarters k way))
    → g (left_quarters m way) ≡ g way
sector g way zero free = refl
sector g way (suc m) free =
    sym (free (suc m) (omega arith) (omega arith))
    ∙ ap g (right_left (left_quarters m way))
    ∙ sector g way m (λ k from to. free k from (omega (arith, to)))

module _ (p : PlaneModel) (points : PointsModel) (plane : IsPlane p) (axes : AreOnAxes (paths p points)) (apart : MeetNowhere points (paths p points))
    (whole : length points.vertices ≡ vertices p) (s : ℕ → ℕ → Bool) (undivided : IsUndivided p points s) where
  abbrev at : Point → Direction → Bool
  at q way = cell p points plane axes apart whole s undivided q way

  -- the cell on the left of a dart where it begins
  abbrev pub start : ℕ → Bool
  start d = at (vertex_point points (tail p d)) (leaving p points d)

  module _ (shape : ShapeModel) (said : TurnAsSaid p shape points) (rep : Rep p (angle_at shape) (turns_at shape)) where
    -- ---- from the beginning of a dart to its end

    last_of : (d : ℕ) → (k : ℕ) × (suc (suc k) ≡ length (path_along p points d))
    last_of d =
        let long = path_long (vertex_point points (tail p d)) (corners_at points (edge_number p d)) (vertex_point points (head p d)) in
        (length (path_along p points d) - 2, omega (arith, long))

    pub lesser_first : (d : ℕ) → is_lesser p d ≡ true → leaving p points d ≡ direction_between (point_of (path_along p points d) 0) (point_of (path_along p points d) 1)
    lesser_first d lesser = leaving-lesser p points d lesser

    lesser_end : (d : ℕ) → d < darts p → is_lesser p d ≡ true
        → (at (vertex_point points (head p d)) (leaving p points (reverse_dart p d)) ≡ at (vertex_point points (tail p d)) (right_of (leaving p points d)))
        × (at (vertex_point points (head p d)) (right_of (leaving p points (reverse_dart p d))) ≡ start d)
    lesser_end d d_in lesser =
        let (k, size) = last_of d in
        let path = path_along p points d in
        let ends = plane_ends p plane in
        let inside : suc k < length path = omega (arith, size) in
        let plus : suc k ≡ k + 1 = omega arith in
        let a : Point = point_of path k in
        let b : Point = point_of path (suc k) in
        let way : Direction = direction_between a b in
        let to : b ≡ vertex_point points (head p d) = last_point p points plane axes apart whole d k size in
        let turned : leaving p points (reverse_dart p d) ≡ opposite_of way =
        leaving-reverse_dart p points d k ends d_in lesser (omega (arith, size))
        ∙ ap (λ (m : ℕ). direction_between (point_of path m) a) (sym plus)
        ∙ back_way p points plane axes apart whole s undivided d k d_in lesser inside in
        let end = end_cells p points plane axes apart whole s undivided way d k d_in lesser inside
        (starts a b (part_axis p points plane axes apart whole d k d_in lesser inside)) in
        let before = path_cells p points plane axes apart whole s undivided shape said d k d_in lesser inside in
        let first = lesser_first d lesser in (
          ap (at (vertex_point points (head p d))) turned ∙ ap (λ (q : Point). at q (opposite_of way)) (sym to) ∙ end.0 ∙ before.1
              ∙ ap (λ (w : Direction). at (vertex_point points (tail p d)) (right_of w)) (sym first),
          ap (λ (w : Direction). at (vertex_point points (head p d)) (right_of w)) turned ∙ ap (λ (q : Point). at q (right_of (opposite_of way))) (sym to)
              ∙ end.1 ∙ before.0 ∙ ap (at (vertex_point points (tail p d))) (sym first),
        )

    -- the cell on the right of a lesser dart where it begins is the one where its reverse begins
    pub lesser_right : (d : ℕ) → d < darts p → is_lesser p d ≡ true → at (vertex_point points (tail p d)) (right_of (leaving p points d)) ≡ start (reverse_dart p d)
    lesser_right d d_in lesser =
        sym (lesser_end d d_in lesser).0
        ∙ ap (λ (v : ℕ). at (vertex_point points v) (leaving p points (reverse_dart p d))) (sym ((plane_ends p plane).reverse_dart_tail d d_in))

    dart_end : (d : ℕ) → d < darts p → at (vertex_point points (head p d)) (right_of (leaving p points (reverse_dart p d))) ≡ start d
    dart_end d d_in =
        let ends = plane_ends p plane in
        elim (by_edge p plane d d_in) [
          | inl lesser ↦ (lesser_end d d_in lesser).1
          | inr (greater, lesser) ↦
              let e : ℕ = reverse_dart p d in
              ap (λ (v : ℕ). at (vertex_point points v) (right_of (leaving p points e))) (sym (ends.reverse_dart_tail d d_in))
              ∙ lesser_right e (ends.reverse_dart_in_range d d_in) lesser
              ∙ ap start (ends.reverse_dart_back d d_in)
        ]

    -- ---- from there to the beginning of the next

    round : (v : ℕ) → 1 ≤ v → v ≤ vertices p
        → AreRound (darts p) (head p) (λ d. quarters (leaving p points (reverse_dart p d))) (angle_at shape) (arrives_next p) v
    round v from to =
        let ends = plane_ends p plane in
        record {
          one = arrives_one p ends;
          there = arrives_there p ends;
          quarter = λ d _. quarters_few (leaving p points (reverse_dart p d));
          some = λ d d_in. (rep.angles d d_in).0;
          most = λ d d_in. (rep.angles d d_in).1;
          turns = λ d d_in.
              let back : reverse_dart p (arrives_next p d) ≡ next p d = ends.reverse_dart_back (next p d) (ends.next_one.inside d d_in) in
              ap quarters (said.heads d d_in)
              ∙ quarters_of_lefts (angle_at shape d) (leaving p points (next p d))
              ∙ ap (λ (e : ℕ). (quarters (leaving p points e) + angle_at shape d) % 4) (sym back);
          whole = rep.around v from to;
        }

    start_next : (d : ℕ) → d < darts p → start (next p d) ≡ start d
    start_next d d_in =
        let ends = plane_ends p plane in
        let v : ℕ = head p d in
        let q : Point = vertex_point points v in
        let next_in = ends.next_one.inside d d_in in
        let way : Direction = leaving p points (next p d) in
        let angle : ℕ = angle_at shape d in
        let some = (rep.angles d d_in).0 in
        let from = ends.head_from d d_in in
        let to = ends.head_to d d_in in
        let back : reverse_dart p (arrives_next p d) ≡ next p d = ends.reverse_dart_back (next p d) next_in in
        let free : (k : ℕ) → 1 ≤ k → k < angle → IsFree p points (left_quarters k way) q = λ k first last.
        none_free p points plane (left_quarters k way) q (λ by.
        let (x, x_in, off, leaves) = vertex_sides p points plane axes apart whole (left_quarters k way) v from to by in
        let e : ℕ = reverse_dart p x in
        sector_free (darts p) (head p) (λ c. quarters (leaving p points (reverse_dart p c))) (angle_at shape) (arrives_next p) v (round v from to)
        d e k d_in (ends.reverse_dart_in_range x x_in) refl (ends.reverse_dart_head x x_in ∙ off) first last
        (ap (λ (c : ℕ). quarters (leaving p points c)) (ends.reverse_dart_back x x_in)
        ∙ ap quarters leaves
        ∙ quarters_of_lefts k way
        ∙ ap (λ (c : ℕ). (quarters (leaving p points c) + k) % 4) (sym back))) in
        let m : ℕ = angle - 1 in
        let more : suc m ≡ angle = omega (arith, some) in
        let behind : at q (left_quarters m way) ≡ at q way =
        sector (at q) way m (λ k first last. across p points s undivided (left_quarters k way) q (free k first (omega (arith, last, more)))) in
        let turned : right_of (leaving p points (reverse_dart p d)) ≡ left_quarters m way =
        ap right_of (said.heads d d_in ∙ ap (λ (k : ℕ). left_quarters k way) (sym more)) ∙ right_left (left_quarters m way) in
        ap (λ (u : ℕ). at (vertex_point points u) way) (ends.next_tail d d_in)
        ∙ sym behind ∙ ap (at q) (sym turned) ∙ dart_end d d_in

    -- so all darts of a face begin at joined cells
    pub start_face : (d e : ℕ) → d < darts p → e < darts p → face_at p d ≡ face_at p e → start d ≡ start e
    start_face d e d_in e_in same =
        let closed : (c : ℕ) → c < darts p → start c ≡ true → start (next p c) ≡ true = λ c c_in here. start_next c c_in ∙ here in
        elim (cases_Bool (start d)) [
          | inl here ↦ here ∙ sym (plane.faces.least start closed d e d_in e_in same here)
          | inr off ↦ elim (cases_Bool (start e)) [
            | inl there ↦ absurd (both_ways (start d) off (plane.faces.least start closed e d e_in d_in (sym same) there))
            | inr gone ↦ off ∙ sym gone
          ]
        ]
