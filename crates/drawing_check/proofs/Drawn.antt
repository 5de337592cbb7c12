-- The darts of a drawing, in steps of length 1.
use Rattle.std.proofs.Common.{◌≡◌, ◌≢◌, ◌≤◌, ◌<◌, ◌⊎◌, ℕ, zero, suc, ◌+◌, ◌-◌, true, false, cond, ltb, List, [], ◌∷◌, ◌++◌, length, length-append, get_or, reverse, refl, sym, ap, ◌∙◌, subst, inl, inr, arith, Contains}
use Rattle.std.specs.List.{flat_map}
use Rattle.std.proofs.lemmas.Bool.{cases_eq, cases_Bool, cond-true, cond-false, lt-ltb, le-ltb, ltb-false}
use Rattle.std.proofs.lemmas.List.{get_or-reverse, length-reverse, reverse-reverse}
use Rattle.std.proofs.lemmas.List.Elements.{Contains-get_or}
use Rattle.embedding.proofs.Rotation.{one_dart as same_ends_one}
use Rattle.geometry.specs.declared.direction.Direction.{Direction}
use Rattle.geometry.specs.declared.direction.Direction.TheVariants.{East, North, West, South}
use Rattle.geometry.specs.Directions.{opposite_of, left_of, right_of, left_quarters}
use Rattle.faces.specs.Planes.{PlaneModel, IsPlane, HasEnds, darts, vertices, tail, head, reverse_dart, next, face_at}
use Rattle.faces.proofs.Ends.{plane_ends, seven_rules}
use Rattle.faces.proofs.Connected.{all_connected}
use Rattle.ortho_rep.specs.Shapes.{ShapeModel, angle_at}
use Rattle.ortho_rep.specs.Representation.{IsShape}
use Rattle.ortho_rep.specs.declared.grid_points.Point.{Point}
use Rattle.ortho_rep.specs.Points.{PointsModel, origin, vertex_point, corners_at}
use Rattle.ortho_rep.specs.Edges.{is_lesser, edge_number, lesser_darts}
use Rattle.drawing_check.specs.Paths.{path_along, paths, point_of}
use Rattle.drawing_check.specs.Walks.{step_from, interior, AreDistinct}
use Rattle.drawing_check.specs.Draws.{IsOnAxes, Draws, direction_between, direction_of, leaving}
use Rattle.drawing_check.proofs.Coverings.{point_is, no_repeat_left, no_repeat_right, no_repeat_apart}
use Rattle.drawing_check.proofs.Leaving.{point_of-end, leaving-lesser, leaving-reverse_dart, reverse_dart_is_greater}
use Rattle.drawing_check.proofs.Routing.{lesser_in, axes_each}
use Rattle.drawing_check.proofs.DartParts.{contains_flat}
use Rattle.drawing_check.proofs.Weights.{IsStep, step_back}
use Rattle.drawing_check.proofs.Ways.{Ways, IsFree, AreWays}
use Rattle.drawing_check.proofs.Slots.{left_right, right_left, AreTurning, one_leaves, none_between}
use Rattle.drawing_check.proofs.Units.{units, PartWay, part_way, part_step, start_is, end_is, IsAt, first, last, told, units_size, units_inner}
use Rattle.drawing_check.proofs.Distinct.{flat-map_of, one_place, one_list, each_distinct}

-- ---- the units of a dart

abbrev pub dart_units : PlaneModel → PointsModel → ℕ → List Point
dart_units p points d =
    cond (is_lesser p d) (units (path_along p points d)) (reverse (units (path_along p points (reverse_dart p d))))

-- point i of dart d
abbrev pub unit_point : PlaneModel → PointsModel → ℕ → ℕ → Point
unit_point p points d i = point_of (dart_units p points d) i

abbrev pub ways_of : PlaneModel → PointsModel → Ways
ways_of p points = record {
  darts = darts p;
  reverse_dart = reverse_dart p;
  next = next p;
  face = face_at p;
  steps = λ d. length (dart_units p points d) - 1;
  x = λ d i. (unit_point p points d i).x;
  y = λ d i. (unit_point p points d i).y;
  way = λ d i. direction_between (unit_point p points d i) (unit_point p points d (i + 1));
}

-- ---- directions

-- the direction of a step is told by its ends
pub step_direction : (q : Direction) (a b : Point) → IsStep q a.x a.y b.x b.y → direction_between a b ≡ q
step_direction East a b step = rw (lt-ltb a.x b.x (omega (arith, step))) refl
step_direction North a b step =
    rw (le-ltb a.x b.x (omega (arith, step)), le-ltb b.x a.x (omega (arith, step)), lt-ltb a.y b.y (omega (arith, step))) refl
step_direction West a b step = rw (le-ltb a.x b.x (omega (arith, step)), lt-ltb b.x a.x (omega (arith, step))) refl
step_direction South a b step =
    rw (le-ltb a.x b.x (omega (arith, step)), le-ltb b.x a.x (omega (arith, step)), le-ltb a.y b.y (omega (arith, step))) refl

-- where a step ends is told by where it starts
step_end : (q : Direction) (a b c : Point) → IsStep q a.x a.y b.x b.y → IsStep q a.x a.y c.x c.y → b ≡ c
step_end East a b c one two = point_is b c (omega (arith, one, two)) (omega (arith, one, two))
step_end North a b c one two = point_is b c (omega (arith, one, two)) (omega (arith, one, two))
step_end West a b c one two = point_is b c (omega (arith, one, two)) (omega (arith, one, two))
step_end South a b c one two = point_is b c (omega (arith, one, two)) (omega (arith, one, two))

part_back : (a b : Point) → PartWay a b → direction_between b a ≡ opposite_of (direction_between a b)
part_back a b (PartWay.goes_east along across is) =
    rw (le-ltb b.x a.x (omega (arith, along)), lt-ltb a.x b.x along) refl
part_back a b (PartWay.goes_north across along is) =
    rw (le-ltb b.x a.x (omega (arith, across)), le-ltb a.x b.x (omega (arith, across)), le-ltb b.y a.y (omega (arith, along)), lt-ltb a.y b.y along) refl
part_back a b (PartWay.goes_west along across is) =
    rw (lt-ltb b.x a.x along, le-ltb a.x b.x (omega (arith, along))) refl
part_back a b (PartWay.goes_south across along is) =
    rw (le-ltb b.x a.x (omega (arith, across)), le-ltb a.x b.x (omega (arith, across)), lt-ltb b.y a.y along, le-ltb a.y b.y (omega (arith, along))) refl

right_opposite : (a : Direction) → right_of (opposite_of a) ≡ left_of a
right_opposite East = refl
right_opposite North = refl
right_opposite West = refl
right_opposite South = refl

-- what does not turn back goes on, or turns left or right
onward : (a b : Direction) → b ≢ opposite_of a → (b ≡ a) ⊎ ((b ≡ left_of a) ⊎ (b ≡ right_of a))
onward East East off = inl refl
onward East North off = inr (inl refl)
onward East West off = absurd (off refl)
onward East South off = inr (inr refl)
onward North East off = inr (inr refl)
onward North North off = inl refl
onward North West off = inr (inl refl)
onward North South off = absurd (off refl)
onward West East off = absurd (off refl)
onward West North off = inr (inr refl)
onward West West off = inl refl
onward West South off = inr (inl refl)
onward South East off = inr (inl refl)
onward South North off = absurd (off refl)
onward South West off = inr (inr refl)
onward South South off = inl refl

-- the quarters on the left of a turn: none of them is one of the two directions
pub record IsGap (a b : Direction) : Type 0 where
  pub quarters : ℕ
  pub from : left_of a ≡ left_quarters quarters b
  pub not_on : (j : ℕ) → j < quarters → left_quarters (suc j) b ≢ b
  pub not_back : (j : ℕ) → j < quarters → left_quarters (suc j) b ≢ opposite_of a

gap_straight : (a : Direction) → IsGap a a
gap_straight a = record {
  quarters = 1;
  from = refl;
  not_on = λ j less. at j less;
  not_back = λ j less. back j less;
}
  where
    no_left : (a : Direction) → left_of a ≢ a
    no_left East e = cc
    no_left North e = cc
    no_left West e = cc
    no_left South e = cc

    no_right : (a : Direction) → left_of a ≢ opposite_of a
    no_right East e = cc
    no_right North e = cc
    no_right West e = cc
    no_right South e = cc

    at : (j : ℕ) → j < 1 → left_quarters (suc j) a ≢ a
    at zero less = no_left a
    at (suc j) less = absurd (omega (arith, less))

    back : (j : ℕ) → j < 1 → left_quarters (suc j) a ≢ opposite_of a
    back zero less = no_right a
    back (suc j) less = absurd (omega (arith, less))

gap_left : (a : Direction) → IsGap a (left_of a)
gap_left a = record {
  quarters = 0;
  from = refl;
  not_on = λ j less. absurd (omega (arith, less));
  not_back = λ j less. absurd (omega (arith, less));
}

gap_right : (a : Direction) → IsGap a (right_of a)
gap_right a = record {
  quarters = 2;
  from = ap left_of (sym (left_right a));
  not_on = λ j less. at j less;
  not_back = λ j less. back j less;
}
  where
    one_on : (a : Direction) → left_of (right_of a) ≢ right_of a
    one_on East e = cc
    one_on North e = cc
    one_on West e = cc
    one_on South e = cc

    two_on : (a : Direction) → left_of (left_of (right_of a)) ≢ right_of a
    two_on East e = cc
    two_on North e = cc
    two_on West e = cc
    two_on South e = cc

    one_back : (a : Direction) → left_of (right_of a) ≢ opposite_of a
    one_back East e = cc
    one_back North e = cc
    one_back West e = cc
    one_back South e = cc

    two_back : (a : Direction) → left_of (left_of (right_of a)) ≢ opposite_of a
    two_back East e = cc
    two_back North e = cc
    two_back West e = cc
    two_back South e = cc

    at : (j : ℕ) → j < 2 → left_quarters (suc j) (right_of a) ≢ right_of a
    at zero less = one_on a
    at (suc zero) less = two_on a
    at (suc (suc j)) less = absurd (omega (arith, less))

    back : (j : ℕ) → j < 2 → left_quarters (suc j) (right_of a) ≢ opposite_of a
    back zero less = one_back a
    back (suc zero) less = two_back a
    back (suc (suc j)) less = absurd (omega (arith, less))

gap : (a b : Direction) → b ≢ opposite_of a → IsGap a b
gap a b off =
    elim (onward a b off) [
      | inl on ↦ subst (IsGap a) (sym on) (gap_straight a)
      | inr turn ↦ elim turn [ inl left ↦ subst (IsGap a) (sym left) (gap_left a) | inr right ↦ subst (IsGap a) (sym right) (gap_right a) ]
    ]

-- ---- lists of steps

abbrev HasSteps : List Point → Type 0
HasSteps u = (i : ℕ) → i + 1 < length u → (q : Direction) × IsStep q (point_of u i).x (point_of u i).y (point_of u (i + 1)).x (point_of u (i + 1)).y

reversed_at : (u : List Point) (i j : ℕ) → i < length u → i + j + 1 ≡ length u → point_of (reverse u) i ≡ point_of u j
reversed_at u i j i_in sum =
    let at : length u - 1 - i ≡ j = omega (arith, sum) in
    get_or-reverse u i origin i_in ∙ ap (λ (k : ℕ). get_or u k origin) at

reversed_steps : (u : List Point) → HasSteps u → HasSteps (reverse u)
reversed_steps u steps i i_in =
    let size = length-reverse u in
    let j : ℕ = length u - 2 - i in
    let it = steps j (omega (arith, size, i_in)) in
    let one = reversed_at u i (j + 1) (omega (arith, size, i_in)) (omega (arith, size, i_in)) in
    let two = reversed_at u (i + 1) j (omega (arith, size, i_in)) (omega (arith, size, i_in)) in (
      opposite_of it.0,
      subst (λ (q : Point). IsStep (opposite_of it.0) q.x q.y (point_of (reverse u) (i + 1)).x (point_of (reverse u) (i + 1)).y) (sym one)
          (subst (λ (q : Point). IsStep (opposite_of it.0) (point_of u (j + 1)).x (point_of u (j + 1)).y q.x q.y) (sym two)
          (step_back it.0 (point_of u j).x (point_of u j).y (point_of u (j + 1)).x (point_of u (j + 1)).y it.1)),
    )

-- a step of the units goes as its part
pub at_step : (path : List Point) → IsOnAxes path → (i k m : ℕ) → IsAt path i k m
    → IsStep (direction_of path k) (point_of (units path) i).x (point_of (units path) i).y (point_of (units path) (i + 1)).x (point_of (units path) (i + 1)).y
at_step path axes i k m at =
    let a : Point = point_of path k in
    let b : Point = point_of path (k + 1) in
    let it = part_step a b (part_way a b (axes k at.in_path)) m at.in_part in
    subst (λ (q : Point). IsStep (direction_between a b) q.x q.y (point_of (units path) (i + 1)).x (point_of (units path) (i + 1)).y) (sym at.from)
    (subst (λ (q : Point). IsStep (direction_between a b) (step_from a b m).x (step_from a b m).y q.x q.y) (sym at.to) it)

units_steps : (path : List Point) → IsOnAxes path → HasSteps (units path)
units_steps path axes i i_in =
    let it = told path axes i i_in in (direction_of path it.0, at_step path axes i it.0 it.1 it.2)

module _ (p : PlaneModel) (shape : ShapeModel) (points : PointsModel) (plane : IsPlane p) (is : IsShape p shape) (whole : length points.vertices ≡ vertices p)
    (draws : Draws p shape points) where
  ends : HasEnds p
  ends = plane_ends p plane

  abbrev w : Ways
  w = ways_of p points

  abbrev pt : ℕ → ℕ → Point
  pt = unit_point p points

  abbrev steps : ℕ → ℕ
  steps d = length (dart_units p points d) - 1

  abbrev way : ℕ → ℕ → Direction
  way d i = direction_between (unit_point p points d i) (unit_point p points d (i + 1))

  -- ---- paths

  path_size : (d : ℕ) → length (path_along p points d) ≡ length (corners_at points (edge_number p d)) + 2
  path_size d = omega (arith, length-append (corners_at points (edge_number p d)) (vertex_point points (head p d) ∷ []))

  pub path_axes : (d : ℕ) → d < darts p → is_lesser p d ≡ true → IsOnAxes (path_along p points d)
  path_axes d d_in less = (axes_each p points).0 draws.axes d d_in less

  pub lesser_units : (d : ℕ) → is_lesser p d ≡ true → dart_units p points d ≡ units (path_along p points d)
  lesser_units d less = cond-true (is_lesser p d) (units (path_along p points d)) (reverse (units (path_along p points (reverse_dart p d)))) less

  greater_units : (d : ℕ) → is_lesser p d ≡ false → dart_units p points d ≡ reverse (units (path_along p points (reverse_dart p d)))
  greater_units d greater = cond-false (is_lesser p d) (units (path_along p points d)) (reverse (units (path_along p points (reverse_dart p d)))) greater

  pub back_is_lesser : (d : ℕ) → d < darts p → is_lesser p d ≡ false → is_lesser p (reverse_dart p d) ≡ true
  back_is_lesser d d_in greater =
      elim (cases_Bool (is_lesser p (reverse_dart p d))) [
        | inl less ↦ less
        | inr not_less ↦ absurd (neither d (reverse_dart p d) (reverse_dart p (reverse_dart p d)) greater not_less (ends.reverse_dart_back d d_in) (ends.reverse_dart_apart d d_in))
      ]
    where
      neither : (a b c : ℕ) → ltb a b ≡ false → ltb b c ≡ false → c ≡ a → (b ≡ a → ⊥) → ⊥
      neither a b c one two same apart = omega (arith, ltb-false a b one, ltb-false b c two, same, apart)

  pub back_units : (d : ℕ) → d < darts p → dart_units p points (reverse_dart p d) ≡ reverse (dart_units p points d)
  back_units d d_in =
      elim (cases_Bool (is_lesser p d)) [
        | inl less ↦
            greater_units (reverse_dart p d) (reverse_dart_is_greater p d ends d_in less)
            ∙ ap (λ (e : ℕ). reverse (units (path_along p points e))) (ends.reverse_dart_back d d_in)
            ∙ ap reverse (sym (lesser_units d less))
        | inr greater ↦
            lesser_units (reverse_dart p d) (back_is_lesser d d_in greater)
            ∙ sym (reverse-reverse (units (path_along p points (reverse_dart p d))))
            ∙ ap reverse (sym (greater_units d greater))
      ]

  path_units_some : (d : ℕ) → d < darts p → is_lesser p d ≡ true → 2 ≤ length (units (path_along p points d))
  path_units_some d d_in less =
      omega (arith, units_size (path_along p points d) (path_axes d d_in less) (omega (arith, path_size d)))

  units_some : (d : ℕ) → d < darts p → 2 ≤ length (dart_units p points d)
  units_some d d_in =
      elim (cases_Bool (is_lesser p d)) [
        | inl less ↦ subst (λ (u : List Point). 2 ≤ length u) (sym (lesser_units d less)) (path_units_some d d_in less)
        | inr greater ↦ subst (λ (u : List Point). 2 ≤ length u) (sym (greater_units d greater))
            (omega (
              arith,
              length-reverse (units (path_along p points (reverse_dart p d))),
              path_units_some (reverse_dart p d) (ends.reverse_dart_in_range d d_in) (back_is_lesser d d_in greater),
            ))
      ]

  dart_steps : (d : ℕ) → d < darts p → HasSteps (dart_units p points d)
  dart_steps d d_in =
      elim (cases_Bool (is_lesser p d)) [
        | inl less ↦ subst HasSteps (sym (lesser_units d less)) (units_steps (path_along p points d) (path_axes d d_in less))
        | inr greater ↦ subst HasSteps (sym (greater_units d greater))
            (reversed_steps (units (path_along p points (reverse_dart p d)))
            (units_steps (path_along p points (reverse_dart p d)) (path_axes (reverse_dart p d) (ends.reverse_dart_in_range d d_in) (back_is_lesser d d_in greater))))
      ]

  back_steps : (d : ℕ) → d < darts p → steps (reverse_dart p d) ≡ steps d
  back_steps d d_in = omega (arith, ap length (back_units d d_in), length-reverse (dart_units p points d))

  back_point : (d i j : ℕ) → d < darts p → i + j ≡ steps d → pt (reverse_dart p d) i ≡ pt d j
  back_point d i j d_in sum =
      let some = units_some d d_in in
      ap (λ (u : List Point). point_of u i) (back_units d d_in) ∙ reversed_at (dart_units p points d) i j (omega (arith, some, sum)) (omega (arith, some, sum))

  goes : (d i : ℕ) → d < darts p → i < steps d → IsStep (way d i) (pt d i).x (pt d i).y (pt d (i + 1)).x (pt d (i + 1)).y
  goes d i d_in i_in =
      let it = dart_steps d d_in i (omega (arith, i_in)) in
      subst (λ (q : Direction). IsStep q (pt d i).x (pt d i).y (pt d (i + 1)).x (pt d (i + 1)).y) (sym (step_direction it.0 (pt d i) (pt d (i + 1)) it.1)) it.1

  back_way : (d i j : ℕ) → d < darts p → i + j + 1 ≡ steps d → way (reverse_dart p d) i ≡ opposite_of (way d j)
  back_way d i j d_in sum =
      ap (λ (q : Point). direction_between q (pt (reverse_dart p d) (i + 1))) (back_point d i (j + 1) d_in (omega (arith, sum)))
      ∙ ap (λ (q : Point). direction_between (pt d (j + 1)) q) (back_point d (i + 1) j d_in (omega (arith, sum)))
      ∙ step_direction (opposite_of (way d j)) (pt d (j + 1)) (pt d j)
      (step_back (way d j) (pt d j).x (pt d j).y (pt d (j + 1)).x (pt d (j + 1)).y (goes d j d_in (omega (arith, sum))))

  -- ---- ends

  lesser_start : (d : ℕ) → d < darts p → is_lesser p d ≡ true → pt d 0 ≡ vertex_point points (tail p d)
  lesser_start d d_in less =
      let path : List Point = path_along p points d in
      let at = first path (path_axes d d_in less) (omega (arith, path_size d)) in
      ap (λ (u : List Point). point_of u 0) (lesser_units d less) ∙ at.from ∙ start_is (point_of path 0) (point_of path 1) (part_way (point_of path 0) (point_of path 1) (path_axes d d_in less 0 at.in_path))

  lesser_end : (d : ℕ) → d < darts p → is_lesser p d ≡ true → pt d (steps d) ≡ vertex_point points (head p d)
  lesser_end d d_in less =
      let path : List Point = path_along p points d in
      let axes = path_axes d d_in less in
      let n : ℕ = length (corners_at points (edge_number p d)) in
      let it = last path axes n (path_size d) in
      let some = units_some d d_in in
      let e : steps d ≡ it.0 + 1 = omega (arith, ap length (lesser_units d less), it.2) in
      ap (λ (u : List Point). point_of u (steps d)) (lesser_units d less)
      ∙ ap (point_of (units path)) e
      ∙ it.3.to
      ∙ ap (step_from (point_of path n) (point_of path (n + 1))) it.4
      ∙ end_is (point_of path n) (point_of path (n + 1)) (part_way (point_of path n) (point_of path (n + 1)) (axes n it.3.in_path))
      ∙ point_of-end (vertex_point points (tail p d)) (vertex_point points (head p d)) (corners_at points (edge_number p d))

  pub starts : (d : ℕ) → d < darts p → pt d 0 ≡ vertex_point points (tail p d)
  starts d d_in =
      elim (cases_Bool (is_lesser p d)) [
        | inl less ↦ lesser_start d d_in less
        | inr greater ↦
            let r_in = ends.reverse_dart_in_range d d_in in
            ap (λ (e : ℕ). pt e 0) (sym (ends.reverse_dart_back d d_in))
            ∙ back_point (reverse_dart p d) 0 (steps (reverse_dart p d)) r_in (omega arith)
            ∙ lesser_end (reverse_dart p d) r_in (back_is_lesser d d_in greater)
            ∙ ap (vertex_point points) (ends.reverse_dart_head d d_in)
      ]

  pub stops : (d : ℕ) → d < darts p → pt d (steps d) ≡ vertex_point points (head p d)
  stops d d_in =
      sym (back_point d 0 (steps d) d_in (omega arith)) ∙ starts (reverse_dart p d) (ends.reverse_dart_in_range d d_in)
      ∙ ap (vertex_point points) (ends.reverse_dart_tail d d_in)

  -- the first step goes as the dart leaves
  lesser_leaves : (d : ℕ) → d < darts p → is_lesser p d ≡ true → way d 0 ≡ leaving p points d
  lesser_leaves d d_in less =
      let path : List Point = path_along p points d in
      let axes = path_axes d d_in less in
      let at = first path axes (omega (arith, path_size d)) in
      ap (λ (u : List Point). direction_between (point_of u 0) (point_of u (0 + 1))) (lesser_units d less)
      ∙ step_direction (direction_of path 0) (point_of (units path) 0) (point_of (units path) (0 + 1)) (at_step path axes 0 0 0 at)
      ∙ sym (leaving-lesser p points d less)

  greater_leaves : (d : ℕ) → d < darts p → is_lesser p d ≡ true → way (reverse_dart p d) 0 ≡ leaving p points (reverse_dart p d)
  greater_leaves d d_in less =
      let path : List Point = path_along p points d in
      let axes = path_axes d d_in less in
      let n : ℕ = length (corners_at points (edge_number p d)) in
      let it = last path axes n (path_size d) in
      back_way d 0 it.0 d_in (omega (arith, ap length (lesser_units d less), it.2))
      ∙ ap opposite_of (ap (λ (u : List Point). direction_between (point_of u it.0) (point_of u (it.0 + 1))) (lesser_units d less)
      ∙ step_direction (direction_of path n) (point_of (units path) it.0) (point_of (units path) (it.0 + 1)) (at_step path axes it.0 n it.1 it.3))
      ∙ sym (part_back (point_of path n) (point_of path (n + 1)) (part_way (point_of path n) (point_of path (n + 1)) (axes n it.3.in_path)))
      ∙ sym (leaving-reverse_dart p points d n ends d_in less (path_size d))

  leaves : (d : ℕ) → d < darts p → way d 0 ≡ leaving p points d
  leaves d d_in =
      elim (cases_Bool (is_lesser p d)) [
        | inl less ↦ lesser_leaves d d_in less
        | inr greater ↦
            subst (λ (e : ℕ). way e 0 ≡ leaving p points e) (ends.reverse_dart_back d d_in)
            (greater_leaves (reverse_dart p d) (ends.reverse_dart_in_range d d_in) (back_is_lesser d d_in greater))
      ]

  turning : AreTurning (darts p) (head p) (reverse_dart p) (next p) (angle_at shape) (leaving p points)
  turning = record {
    back_in = ends.reverse_dart_in_range;
    back_back = ends.reverse_dart_back;
    next_in = ends.next_one.inside;
    next_head = λ d d_in. ends.reverse_dart_head (next p d) (ends.next_one.inside d d_in) ∙ ends.next_tail d d_in;
    some = λ d d_in. (is.rep.angles d d_in).0;
    most = λ d d_in. (is.rep.angles d d_in).1;
    turns = draws.turns.heads;
    around = λ d d_in. is.rep.around (head p d) (ends.head_from d d_in) (ends.head_to d d_in);
  }

  -- ---- points that are met once

  all_apart : AreDistinct (points.vertices ++ flat_map interior (paths p points))
  all_apart = draws.apart

  abbrev between : ℕ → List Point
  between d = interior (path_along p points d)

  inner_apart : AreDistinct (flat_map between (lesser_darts p))
  inner_apart =
      subst AreDistinct (flat-map_of interior (path_along p points) (lesser_darts p))
      (no_repeat_right points.vertices (flat_map interior (paths p points)) all_apart)

  in_list : (d : ℕ) → d < darts p → is_lesser p d ≡ true → Contains (lesser_darts p) d
  in_list d d_in less = lesser_in (is_lesser p) (darts p) d d_in less

  -- an inner point of a lesser dart, in the list of those between its ends
  pub record IsBetween (d i : ℕ) : Type 0 where
    pub k : ℕ
    pub up : suc k ≡ i
    pub inside : k < length (between d)
    pub at : pt d i ≡ get_or (between d) k origin

  is_between : (d i : ℕ) → d < darts p → is_lesser p d ≡ true → 0 < i → i < steps d → IsBetween d i
  is_between d i d_in less some i_in =
      let path : List Point = path_along p points d in
      let axes = path_axes d d_in less in
      let size = units_size path axes (omega (arith, path_size d)) in
      let same = ap length (lesser_units d less) in
      let k : ℕ = i - 1 in
      let up : suc k ≡ i = omega (arith, some) in
      let inside : k < length (between d) = omega (arith, size, same, i_in, some) in
      record {
        k = k;
        up = up;
        inside = inside;
        at = ap (λ (u : List Point). point_of u i) (lesser_units d less) ∙ ap (point_of (units path)) (sym up)
            ∙ units_inner path axes (omega (arith, path_size d)) k inside;
      }

  lesser_once : (d i e j : ℕ) → d < darts p → e < darts p → is_lesser p d ≡ true → is_lesser p e ≡ true → 0 < i → i < steps d → 0 < j → j < steps e
      → pt d i ≡ pt e j → (d ≡ e) × (i ≡ j)
  lesser_once d i e j d_in e_in less_d less_e i_some i_in j_some j_in same =
      let one = is_between d i d_in less_d i_some i_in in
      let two = is_between e j e_in less_e j_some j_in in
      let here : Contains (between d) (pt d i) = subst (Contains (between d)) (sym one.at) (Contains-get_or (between d) one.k origin one.inside) in
      let there : Contains (between e) (pt d i) = subst (Contains (between e)) (sym (same ∙ two.at)) (Contains-get_or (between e) two.k origin two.inside) in
      let dart : d ≡ e = one_list between (lesser_darts p) inner_apart d e (pt d i) (in_list d d_in less_d) (in_list e e_in less_e) here there in
      let place : one.k ≡ two.k =
      one_place (between d) (each_distinct between (lesser_darts p) inner_apart d (in_list d d_in less_d)) one.k two.k one.inside
      (subst (λ (c : ℕ). two.k < length (between c)) (sym dart) two.inside)
      (sym one.at ∙ same ∙ two.at ∙ ap (λ (c : ℕ). get_or (between c) two.k origin) (sym dart)) in
      (dart, sym one.up ∙ ap suc place ∙ two.up)

  lesser_off : (d i v : ℕ) → d < darts p → is_lesser p d ≡ true → 0 < i → i < steps d → 1 ≤ v → v ≤ vertices p → pt d i ≡ vertex_point points v → ⊥
  lesser_off d i v d_in less some i_in v_some v_in same =
      let one = is_between d i d_in less some i_in in
      let inner : Contains (flat_map between (lesser_darts p)) (pt d i) =
      contains_flat between d (pt d i) (lesser_darts p) (in_list d d_in less) (subst (Contains (between d)) (sym one.at) (Contains-get_or (between d) one.k origin one.inside)) in
      no_repeat_apart points.vertices (flat_map interior (paths p points)) all_apart (pt d i)
      (subst (Contains points.vertices) (sym same) (Contains-get_or points.vertices (v - 1) origin (omega (arith, whole, v_some, v_in))))
      (subst (λ (l : List Point). Contains l (pt d i)) (sym (flat-map_of interior (path_along p points) (lesser_darts p))) inner)

  vertex_once : (u v : ℕ) → 1 ≤ u → u ≤ vertices p → 1 ≤ v → v ≤ vertices p → vertex_point points u ≡ vertex_point points v → u ≡ v
  vertex_once u v u_some u_in v_some v_in same =
      let place : u - 1 ≡ v - 1 =
      one_place points.vertices (no_repeat_left points.vertices (flat_map interior (paths p points)) all_apart) (u - 1) (v - 1)
      (omega (arith, whole, u_some, u_in)) (omega (arith, whole, v_some, v_in)) same in
      omega (arith, place, u_some, v_some)

  -- an inner point, told by the lesser dart of its edge
  pub record IsTold (d i : ℕ) : Type 0 where
    pub e : ℕ
    pub j : ℕ
    pub dart_in : e < darts p
    pub less : is_lesser p e ≡ true
    pub some : 0 < j
    pub inside : j < steps e
    pub at : pt d i ≡ pt e j
    pub which : ((d ≡ e) × (i ≡ j)) ⊎ ((d ≡ reverse_dart p e) × (i + j ≡ steps d))

  by_lesser : (d i : ℕ) → d < darts p → 0 < i → i < steps d → IsTold d i
  by_lesser d i d_in some i_in =
      elim (cases_Bool (is_lesser p d)) [
        | inl less ↦ record { e = d; j = i; dart_in = d_in; less = less; some = some; inside = i_in; at = refl; which = inl (refl, refl) }
        | inr greater ↦
            let size = back_steps d d_in in
            let j : ℕ = steps d - i in
            record {
              e = reverse_dart p d;
              j = j;
              dart_in = ends.reverse_dart_in_range d d_in;
              less = back_is_lesser d d_in greater;
              some = omega (arith, i_in);
              inside = omega (arith, size, some, i_in);
              at = sym (back_point d j i d_in (omega (arith, i_in)));
              which = inr (sym (ends.reverse_dart_back d d_in), omega (arith, i_in));
            }
      ]

  off_vertex : (d i v : ℕ) → d < darts p → 0 < i → i < steps d → 1 ≤ v → v ≤ vertices p → pt d i ≡ vertex_point points v → ⊥
  off_vertex d i v d_in some i_in v_some v_in same =
      let t = by_lesser d i d_in some i_in in
      lesser_off t.e t.j v t.dart_in t.less t.some t.inside v_some v_in (sym t.at ∙ same)

  -- an inner point of a dart is met by that dart and its reverse alone
  meet : (d i e k : ℕ) → d < darts p → e < darts p → 0 < i → i < steps d → k ≤ steps e → pt d i ≡ pt e k
      → ((d ≡ e) × (i ≡ k)) ⊎ ((d ≡ reverse_dart p e) × (i + k ≡ steps d))
  meet d i e k d_in e_in some i_in k_in same =
      elim (cases_eq k 0) [
        | inl start ↦ absurd (off_vertex d i (tail p e) d_in some i_in (ends.tail_from e e_in) (ends.tail_to e e_in) (same ∙ ap (pt e) start ∙ starts e e_in))
        | inr inner ↦ elim (cases_eq k (steps e)) [
          | inl stop ↦ absurd (off_vertex d i (head p e) d_in some i_in (ends.head_from e e_in) (ends.head_to e e_in) (same ∙ ap (pt e) stop ∙ stops e e_in))
          | inr inner' ↦
              let one = by_lesser d i d_in some i_in in
              let two = by_lesser e k e_in (omega (arith, inner)) (omega (arith, k_in, inner')) in
              let once = lesser_once one.e one.j two.e two.j one.dart_in two.dart_in one.less two.less one.some one.inside two.some two.inside (sym one.at ∙ same ∙ two.at) in
              elim one.which [
                | inl a ↦ elim two.which [
                  | inl b ↦ inl (a.0 ∙ once.0 ∙ sym b.0, a.1 ∙ once.1 ∙ sym b.1)
                  | inr b ↦
                      let back : d ≡ reverse_dart p e = a.0 ∙ once.0 ∙ sym (ends.reverse_dart_back two.e two.dart_in) ∙ ap (reverse_dart p) (sym b.0) in
                      inr (back, omega (arith, a.1, once.1, b.1, ap steps back, back_steps e e_in))
                ]
                | inr a ↦ elim two.which [
                  | inl b ↦ inr (a.0 ∙ ap (reverse_dart p) (once.0 ∙ sym b.0), omega (arith, a.1, once.1, b.1))
                  | inr b ↦
                      let same_dart : d ≡ e = a.0 ∙ ap (reverse_dart p) once.0 ∙ sym b.0 in
                      inl (same_dart, omega (arith, a.1, once.1, b.1, ap steps same_dart))
                ]
              ]
        ]
      ]

  no_loop : (d : ℕ) → d < darts p → tail p d ≡ head p d → ⊥
  no_loop d d_in loop =
      let r_in = ends.reverse_dart_in_range d d_in in
      ends.reverse_dart_apart d d_in
      (same_ends_one p.lists (seven_rules p.lists plane.rules) (reverse_dart p d) d r_in d_in (ends.reverse_dart_tail d d_in ∙ sym loop) (ends.reverse_dart_head d d_in ∙ loop))

  -- no dart turns back on its way
  no_turn : (d i : ℕ) → d < darts p → i + 1 < steps d → way d (i + 1) ≢ opposite_of (way d i)
  no_turn d i d_in i_in turned =
      let a : Point = pt d i in
      let b : Point = pt d (i + 1) in
      let c : Point = pt d (i + 1 + 1) in
      let on : IsStep (opposite_of (way d i)) b.x b.y c.x c.y =
      subst (λ (q : Direction). IsStep q b.x b.y c.x c.y) turned (goes d (i + 1) d_in i_in) in
      let same : c ≡ a = step_end (opposite_of (way d i)) b c a on (step_back (way d i) a.x a.y b.x b.y (goes d i d_in (omega (arith, i_in)))) in
      elim (cases_eq i 0) [
        | inr inner ↦ elim (meet d i d (i + 1 + 1) d_in d_in (omega (arith, inner)) (omega (arith, i_in)) (omega (arith, i_in)) (sym same)) [
          | inl e ↦ omega (arith, e.1)
          | inr e ↦ ends.reverse_dart_apart d d_in (sym e.0)
        ]
        | inl start ↦ elim (cases_eq (i + 1 + 1) (steps d)) [
          | inr inner ↦ elim (meet d (i + 1 + 1) d i d_in d_in (omega arith) (omega (arith, i_in, inner)) (omega (arith, i_in)) same) [
            | inl e ↦ omega (arith, e.1)
            | inr e ↦ ends.reverse_dart_apart d d_in (sym e.0)
          ]
          | inl stop ↦ no_loop d d_in
              (vertex_once (tail p d) (head p d) (ends.tail_from d d_in) (ends.tail_to d d_in) (ends.head_from d d_in) (ends.head_to d d_in)
              (sym (starts d d_in) ∙ ap (pt d) (sym start) ∙ sym same ∙ ap (pt d) stop ∙ stops d d_in))
        ]
      ]

  -- ---- no two steps leave a point in one direction

  one_inner : (d i e j : ℕ) → d < darts p → 0 < i → i < steps d → e < darts p → j < steps e → pt d i ≡ pt e j → way d i ≡ way e j → (d ≡ e) × (i ≡ j)
  one_inner d i e j d_in some i_in e_in j_in same turn =
      elim (meet d i e j d_in e_in some i_in (omega (arith, j_in)) same) [
        | inl both ↦ both
        | inr back ↦
            let k : ℕ = i - 1 in
            let up : k + 1 ≡ i = omega (arith, some) in
            let other : e ≡ reverse_dart p d = sym (ends.reverse_dart_back e e_in) ∙ ap (reverse_dart p) (sym back.0) in
            let turned : way d i ≡ opposite_of (way d k) = turn ∙ ap (λ (c : ℕ). way c j) other ∙ back_way d j k d_in (omega (arith, back.1, some)) in
            absurd (no_turn d k d_in (omega (arith, some, i_in)) (ap (way d) up ∙ turned))
      ]

  one_way : (d i e j : ℕ) → d < darts p → i < steps d → e < darts p → j < steps e → pt d i ≡ pt e j → way d i ≡ way e j → (d ≡ e) × (i ≡ j)
  one_way d i e j d_in i_in e_in j_in same turn =
      elim (cases_eq i 0) [
        | inr inner ↦ one_inner d i e j d_in (omega (arith, inner)) i_in e_in j_in same turn
        | inl start ↦ elim (cases_eq j 0) [
          | inr inner ↦ let both = one_inner e j d i e_in (omega (arith, inner)) j_in d_in i_in (sym same) (sym turn) in (sym both.0, sym both.1)
          | inl start' ↦
              let tails : tail p d ≡ tail p e =
              vertex_once (tail p d) (tail p e) (ends.tail_from d d_in) (ends.tail_to d d_in) (ends.tail_from e e_in) (ends.tail_to e e_in)
              (sym (starts d d_in) ∙ ap (pt d) (sym start) ∙ same ∙ ap (pt e) start' ∙ starts e e_in) in
              let dart : d ≡ e =
              one_leaves (darts p) (head p) (reverse_dart p) (next p) (angle_at shape) (leaving p points) turning d e d_in e_in
              (ends.reverse_dart_head d d_in ∙ tails ∙ sym (ends.reverse_dart_head e e_in))
              (sym (leaves d d_in) ∙ ap (way d) (sym start) ∙ turn ∙ ap (way e) start' ∙ leaves e e_in) in
              (dart, start ∙ sym start')
        ]
      ]

  -- ---- and none on the left of a way

  free_inside : (d i : ℕ) → d < darts p → i + 1 < steps d → IsFree (ways_of p points) (way d i) (way d (i + 1)) (pt d (i + 1)).x (pt d (i + 1)).y
  free_inside d i d_in i_in =
      let g = gap (way d i) (way d (i + 1)) (no_turn d i d_in i_in) in
      record {
        quarters = g.quarters;
        from = g.from;
        free = λ j less l.
            elim (meet d (i + 1) l.d l.i d_in l.dart_in (omega arith) i_in (let inside = l.step_in in omega arith)
            (sym (point_is (pt l.d l.i) (pt d (i + 1)) l.at_x l.at_y))) [
              | inl same ↦ g.not_on j less (sym l.goes ∙ ap (λ (c : ℕ). way c l.i) (sym same.0) ∙ ap (way d) (sym same.1))
              | inr back ↦
                  let other : l.d ≡ reverse_dart p d = sym (ends.reverse_dart_back l.d l.dart_in) ∙ ap (reverse_dart p) (sym back.0) in
                  g.not_back j less (sym l.goes ∙ ap (λ (c : ℕ). way c l.i) other ∙ back_way d l.i i d_in (omega (arith, back.1)))
            ];
      }

  free_at : (d i : ℕ) → d < darts p → i + 1 ≡ steps d → IsFree (ways_of p points) (way d i) (way (next p d) 0) (pt d (i + 1)).x (pt d (i + 1)).y
  free_at d i d_in last_is =
      let n_in = ends.next_one.inside d d_in in
      let angle = is.rep.angles d d_in in
      let m : ℕ = angle_at shape d - 1 in
      let up : angle_at shape d ≡ suc m = omega (arith, angle.0) in
      let back : opposite_of (way d i) ≡ left_of (left_quarters m (way (next p d) 0)) =
      sym (back_way d 0 i d_in (omega (arith, last_is))) ∙ leaves (reverse_dart p d) (ends.reverse_dart_in_range d d_in) ∙ draws.turns.heads d d_in
      ∙ ap (λ (k : ℕ). left_quarters k (leaving p points (next p d))) up ∙ ap (left_quarters (suc m)) (sym (leaves (next p d) n_in)) in
      record {
        quarters = m;
        from = sym (right_opposite (way d i)) ∙ ap right_of back ∙ right_left (left_quarters m (way (next p d) 0));
        free = λ j less l.
            let here : pt l.d l.i ≡ pt d (steps d) = point_is (pt l.d l.i) (pt d (i + 1)) l.at_x l.at_y ∙ ap (pt d) last_is in
            elim (cases_eq l.i 0) [
              | inr inner ↦ off_vertex l.d l.i (head p d) l.dart_in (omega (arith, inner)) l.step_in (ends.head_from d d_in) (ends.head_to d d_in) (here ∙ stops d d_in)
              | inl start ↦
                  let tails : tail p l.d ≡ head p d =
                  vertex_once (tail p l.d) (head p d) (ends.tail_from l.d l.dart_in) (ends.tail_to l.d l.dart_in) (ends.head_from d d_in) (ends.head_to d d_in)
                  (sym (starts l.d l.dart_in) ∙ ap (pt l.d) (sym start) ∙ here ∙ stops d d_in) in
                  none_between (darts p) (head p) (reverse_dart p) (next p) (angle_at shape) (leaving p points) turning d l.d j d_in l.dart_in
                  (ends.reverse_dart_head l.d l.dart_in ∙ tails) (omega (arith, up, less))
                  (sym (leaves l.d l.dart_in) ∙ ap (way l.d) (sym start) ∙ l.goes ∙ ap (left_quarters (suc j)) (leaves (next p d) n_in))
            ];
      }

  pub are_ways : AreWays (ways_of p points)
  are_ways = record {
    some = λ d d_in. omega (arith, units_some d d_in);
    back_in = ends.reverse_dart_in_range;
    back_back = ends.reverse_dart_back;
    back_apart = ends.reverse_dart_apart;
    next_one = ends.next_one;
    stays = plane.faces.closed;
    connected = all_connected p.lists (seven_rules p.lists plane.rules);
    back_steps = back_steps;
    back_x = λ d i j d_in sum. ap (λ (q : Point). q.x) (back_point d i j d_in sum);
    back_y = λ d i j d_in sum. ap (λ (q : Point). q.y) (back_point d i j d_in sum);
    goes = goes;
    back_way = back_way;
    next_x = λ d d_in. ap (λ (q : Point). q.x) (starts (next p d) (ends.next_one.inside d d_in) ∙ ap (vertex_point points) (ends.next_tail d d_in) ∙ sym (stops d d_in));
    next_y = λ d d_in. ap (λ (q : Point). q.y) (starts (next p d) (ends.next_one.inside d d_in) ∙ ap (vertex_point points) (ends.next_tail d d_in) ∙ sym (stops d d_in));
    one = λ d i e j d_in i_in e_in j_in ex ey turn. one_way d i e j d_in i_in e_in j_in (point_is (pt d i) (pt e j) ex ey) turn;
    free_inside = free_inside;
    free_at = free_at;
  }
