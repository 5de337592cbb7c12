-- A dart passes a unit side just where one of its steps does.
use Rattle.std.proofs.Common.{◌≡◌, ◌≤◌, ◌<◌, ℕ, ◌+◌, ◌-◌, true, false, List, length, reverse, sym, ap, ◌∙◌, subst, inl, inr, arith}
use Rattle.std.proofs.lemmas.Bool.{cases_Bool, cond-true, cond-false}
use Rattle.geometry.specs.declared.direction.Direction.{Direction}
use Rattle.geometry.specs.declared.direction.Direction.TheVariants.{East, North, West, South}
use Rattle.geometry.specs.Directions.{opposite_of}
use Rattle.faces.specs.Planes.{PlaneModel, IsPlane, HasEnds, darts, vertices, reverse_dart}
use Rattle.faces.proofs.Ends.{plane_ends}
use Rattle.ortho_rep.specs.Shapes.{ShapeModel}
use Rattle.ortho_rep.specs.Representation.{IsShape}
use Rattle.ortho_rep.specs.declared.grid_points.Point.{Point}
use Rattle.ortho_rep.specs.Points.{PointsModel}
use Rattle.ortho_rep.specs.Edges.{is_lesser}
use Rattle.drawing_check.specs.Paths.{path_along, dart_path, point_of}
use Rattle.drawing_check.specs.Draws.{IsOnAxes, Draws, direction_between, direction_of}
use Rattle.drawing_check.specs.Regions.{PassesNorth, PassesEast}
use Rattle.drawing_check.proofs.PathParts.{toward_up, toward_down, toward_same}
use Rattle.drawing_check.proofs.Pieces.{GoesAt, BackAt, back_in_reverse, goes_in_reverse}
use Rattle.drawing_check.proofs.Ways.{Ways, AreWays}
use Rattle.drawing_check.proofs.CellLevels.{Ends}
use Rattle.drawing_check.proofs.Units.{units, PartWay, part_way, IsAt, found, told}
use Rattle.drawing_check.proofs.Drawn.{dart_units, ways_of, step_direction, at_step, lesser_units, back_is_lesser, path_axes, are_ways}

abbrev column : Point → ℕ
column q = q.x

abbrev row : Point → ℕ
row q = q.y

-- ---- what a part that goes so has among the units of its path

-- step i of the units goes in a direction and ends at a point
record Arrives (path : List Point) (q : Direction) (px py : ℕ) : Type 0 where
  pub i : ℕ
  pub inside : i + 1 < length (units path)
  pub way : direction_between (point_of (units path) i) (point_of (units path) (i + 1)) ≡ q
  pub at_x : (point_of (units path) (i + 1)).x ≡ px
  pub at_y : (point_of (units path) (i + 1)).y ≡ py

-- it starts there
record Departs (path : List Point) (q : Direction) (px py : ℕ) : Type 0 where
  pub i : ℕ
  pub inside : i + 1 < length (units path)
  pub way : direction_between (point_of (units path) i) (point_of (units path) (i + 1)) ≡ q
  pub at_x : (point_of (units path) i).x ≡ px
  pub at_y : (point_of (units path) i).y ≡ py

-- where a part goes north, and so on
is_north : (a b : Point) → PartWay a b → a.x ≡ b.x → a.y < b.y → direction_between a b ≡ North
is_north a b (PartWay.goes_east along across is) same up = absurd (omega (arith, along, same))
is_north a b (PartWay.goes_north across along is) same up = is
is_north a b (PartWay.goes_west along across is) same up = absurd (omega (arith, along, same))
is_north a b (PartWay.goes_south across along is) same up = absurd (omega (arith, along, up))

is_south : (a b : Point) → PartWay a b → a.x ≡ b.x → b.y < a.y → direction_between a b ≡ South
is_south a b (PartWay.goes_east along across is) same down = absurd (omega (arith, along, same))
is_south a b (PartWay.goes_north across along is) same down = absurd (omega (arith, along, down))
is_south a b (PartWay.goes_west along across is) same down = absurd (omega (arith, along, same))
is_south a b (PartWay.goes_south across along is) same down = is

is_east : (a b : Point) → PartWay a b → a.y ≡ b.y → a.x < b.x → direction_between a b ≡ East
is_east a b (PartWay.goes_east along across is) same up = is
is_east a b (PartWay.goes_north across along is) same up = absurd (omega (arith, along, same))
is_east a b (PartWay.goes_west along across is) same up = absurd (omega (arith, along, up))
is_east a b (PartWay.goes_south across along is) same up = absurd (omega (arith, along, same))

is_west : (a b : Point) → PartWay a b → a.y ≡ b.y → b.x < a.x → direction_between a b ≡ West
is_west a b (PartWay.goes_east along across is) same down = absurd (omega (arith, along, down))
is_west a b (PartWay.goes_north across along is) same down = absurd (omega (arith, along, same))
is_west a b (PartWay.goes_west along across is) same down = is
is_west a b (PartWay.goes_south across along is) same down = absurd (omega (arith, along, same))

-- the other way: what the direction tells of the ends
north_is : (a b : Point) → PartWay a b → direction_between a b ≡ North → (a.x ≡ b.x) × (a.y < b.y)
north_is a b (PartWay.goes_east along across is) e = absurd (let f = sym is ∙ e in cc)
north_is a b (PartWay.goes_north across along is) e = (across, along)
north_is a b (PartWay.goes_west along across is) e = absurd (let f = sym is ∙ e in cc)
north_is a b (PartWay.goes_south across along is) e = absurd (let f = sym is ∙ e in cc)

south_is : (a b : Point) → PartWay a b → direction_between a b ≡ South → (a.x ≡ b.x) × (b.y < a.y)
south_is a b (PartWay.goes_east along across is) e = absurd (let f = sym is ∙ e in cc)
south_is a b (PartWay.goes_north across along is) e = absurd (let f = sym is ∙ e in cc)
south_is a b (PartWay.goes_west along across is) e = absurd (let f = sym is ∙ e in cc)
south_is a b (PartWay.goes_south across along is) e = (across, along)

east_is : (a b : Point) → PartWay a b → direction_between a b ≡ East → (a.y ≡ b.y) × (a.x < b.x)
east_is a b (PartWay.goes_east along across is) e = (across, along)
east_is a b (PartWay.goes_north across along is) e = absurd (let f = sym is ∙ e in cc)
east_is a b (PartWay.goes_west along across is) e = absurd (let f = sym is ∙ e in cc)
east_is a b (PartWay.goes_south across along is) e = absurd (let f = sym is ∙ e in cc)

west_is : (a b : Point) → PartWay a b → direction_between a b ≡ West → (a.y ≡ b.y) × (b.x < a.x)
west_is a b (PartWay.goes_east along across is) e = absurd (let f = sym is ∙ e in cc)
west_is a b (PartWay.goes_north across along is) e = absurd (let f = sym is ∙ e in cc)
west_is a b (PartWay.goes_west along across is) e = (across, along)
west_is a b (PartWay.goes_south across along is) e = absurd (let f = sym is ∙ e in cc)

module _ (path : List Point) (axes : IsOnAxes path) where
  unit_way : (i k m : ℕ) → IsAt path i k m → direction_between (point_of (units path) i) (point_of (units path) (i + 1)) ≡ direction_of path k
  unit_way i k m at = step_direction (direction_of path k) (point_of (units path) i) (point_of (units path) (i + 1)) (at_step path axes i k m at)

  -- ---- a part that goes there has a step that does

  north_arrives : (k x y : ℕ) → GoesAt column row path k x y → Arrives path North x y
  north_arrives k x y g =
      let a : Point = point_of path k in
      let b : Point = point_of path (k + 1) in
      let m : ℕ = y - 1 - a.y in
      let low : a.y < y = g.goes.from in
      let top : y ≤ b.y = g.goes.to in
      let same : a.x ≡ b.x = g.goes.start ∙ sym g.goes.end in
      let up : a.y < b.y = omega arith in
      let it = found path axes k m g.inside (omega (arith, low, top, same)) in
      record {
        i = it.0;
        inside = it.1.in_units;
        way = unit_way it.0 k m it.1 ∙ is_north a b (part_way a b (axes k g.inside)) same up;
        at_x = ap column it.1.to ∙ toward_same a.x b.x (m + 1) same ∙ g.goes.start;
        at_y = ap row it.1.to ∙ toward_up a.y b.y (m + 1) up ∙ omega (arith, low);
      }

  east_arrives : (k x y : ℕ) → GoesAt row column path k y x → Arrives path East x y
  east_arrives k x y g =
      let a : Point = point_of path k in
      let b : Point = point_of path (k + 1) in
      let m : ℕ = x - 1 - a.x in
      let low : a.x < x = g.goes.from in
      let top : x ≤ b.x = g.goes.to in
      let same : a.y ≡ b.y = g.goes.start ∙ sym g.goes.end in
      let up : a.x < b.x = omega arith in
      let it = found path axes k m g.inside (omega (arith, low, top, same)) in
      record {
        i = it.0;
        inside = it.1.in_units;
        way = unit_way it.0 k m it.1 ∙ is_east a b (part_way a b (axes k g.inside)) same up;
        at_x = ap column it.1.to ∙ toward_up a.x b.x (m + 1) up ∙ omega (arith, low);
        at_y = ap row it.1.to ∙ toward_same a.y b.y (m + 1) same ∙ g.goes.start;
      }

  south_departs : (k x y : ℕ) → BackAt column row path k x y → Departs path South x y
  south_departs k x y g =
      let a : Point = point_of path k in
      let b : Point = point_of path (k + 1) in
      let m : ℕ = a.y - y in
      let low : b.y < y = g.goes.from in
      let top : y ≤ a.y = g.goes.to in
      let same : a.x ≡ b.x = g.goes.end ∙ sym g.goes.start in
      let down : b.y < a.y = omega arith in
      let it = found path axes k m g.inside (omega (arith, low, top, same)) in
      record {
        i = it.0;
        inside = it.1.in_units;
        way = unit_way it.0 k m it.1 ∙ is_south a b (part_way a b (axes k g.inside)) same down;
        at_x = ap column it.1.from ∙ toward_same a.x b.x m same ∙ g.goes.end;
        at_y = ap row it.1.from ∙ toward_down a.y b.y m down ∙ omega (arith, low, top);
      }

  west_departs : (k x y : ℕ) → BackAt row column path k y x → Departs path West x y
  west_departs k x y g =
      let a : Point = point_of path k in
      let b : Point = point_of path (k + 1) in
      let m : ℕ = a.x - x in
      let low : b.x < x = g.goes.from in
      let top : x ≤ a.x = g.goes.to in
      let same : a.y ≡ b.y = g.goes.end ∙ sym g.goes.start in
      let down : b.x < a.x = omega arith in
      let it = found path axes k m g.inside (omega (arith, low, top, same)) in
      record {
        i = it.0;
        inside = it.1.in_units;
        way = unit_way it.0 k m it.1 ∙ is_west a b (part_way a b (axes k g.inside)) same down;
        at_x = ap column it.1.from ∙ toward_down a.x b.x m down ∙ omega (arith, low, top);
        at_y = ap row it.1.from ∙ toward_same a.y b.y m same ∙ g.goes.end;
      }

  -- ---- a step that goes there is of a part that does

  north_part : (i x y : ℕ) → i + 1 < length (units path) → direction_between (point_of (units path) i) (point_of (units path) (i + 1)) ≡ North
      → (point_of (units path) (i + 1)).x ≡ x → (point_of (units path) (i + 1)).y ≡ y → (k : ℕ) × GoesAt column row path k x y
  north_part i x y i_in way ex ey =
      let it = told path axes i i_in in
      let k : ℕ = it.0 in
      let m : ℕ = it.1 in
      let at = it.2 in
      let a : Point = point_of path k in
      let b : Point = point_of path (k + 1) in
      let both = north_is a b (part_way a b (axes k at.in_path)) (sym (unit_way i k m at) ∙ way) in
      let across = toward_same a.x b.x (m + 1) both.0 in
      let along = toward_up a.y b.y (m + 1) both.1 in
      let is_x : x ≡ a.x = sym ex ∙ ap column at.to ∙ across in
      let is_y : y ≡ a.y + (m + 1) = sym ey ∙ ap row at.to ∙ along in (
        k,
        record {
          inside = at.in_path;
          goes = record { start = sym is_x; end = sym both.0 ∙ sym is_x; from = omega (arith, is_y); to = omega (arith, is_y, at.in_part, both) };
        },
      )

  east_part : (i x y : ℕ) → i + 1 < length (units path) → direction_between (point_of (units path) i) (point_of (units path) (i + 1)) ≡ East
      → (point_of (units path) (i + 1)).x ≡ x → (point_of (units path) (i + 1)).y ≡ y → (k : ℕ) × GoesAt row column path k y x
  east_part i x y i_in way ex ey =
      let it = told path axes i i_in in
      let k : ℕ = it.0 in
      let m : ℕ = it.1 in
      let at = it.2 in
      let a : Point = point_of path k in
      let b : Point = point_of path (k + 1) in
      let both = east_is a b (part_way a b (axes k at.in_path)) (sym (unit_way i k m at) ∙ way) in
      let across = toward_same a.y b.y (m + 1) both.0 in
      let along = toward_up a.x b.x (m + 1) both.1 in
      let is_y : y ≡ a.y = sym ey ∙ ap row at.to ∙ across in
      let is_x : x ≡ a.x + (m + 1) = sym ex ∙ ap column at.to ∙ along in (
        k,
        record {
          inside = at.in_path;
          goes = record { start = sym is_y; end = sym both.0 ∙ sym is_y; from = omega (arith, is_x); to = omega (arith, is_x, at.in_part, both) };
        },
      )

  south_part : (i x y : ℕ) → i + 1 < length (units path) → direction_between (point_of (units path) i) (point_of (units path) (i + 1)) ≡ South
      → (point_of (units path) i).x ≡ x → (point_of (units path) i).y ≡ y → (k : ℕ) × BackAt column row path k x y
  south_part i x y i_in way ex ey =
      let it = told path axes i i_in in
      let k : ℕ = it.0 in
      let m : ℕ = it.1 in
      let at = it.2 in
      let a : Point = point_of path k in
      let b : Point = point_of path (k + 1) in
      let both = south_is a b (part_way a b (axes k at.in_path)) (sym (unit_way i k m at) ∙ way) in
      let across = toward_same a.x b.x m both.0 in
      let along = toward_down a.y b.y m both.1 in
      let is_x : x ≡ a.x = sym ex ∙ ap column at.from ∙ across in
      let is_y : y ≡ a.y - m = sym ey ∙ ap row at.from ∙ along in (
        k,
        record {
          inside = at.in_path;
          goes = record { start = sym both.0 ∙ sym is_x; end = sym is_x; from = omega (arith, is_y, at.in_part, both); to = omega (arith, is_y) };
        },
      )

  west_part : (i x y : ℕ) → i + 1 < length (units path) → direction_between (point_of (units path) i) (point_of (units path) (i + 1)) ≡ West
      → (point_of (units path) i).x ≡ x → (point_of (units path) i).y ≡ y → (k : ℕ) × BackAt row column path k y x
  west_part i x y i_in way ex ey =
      let it = told path axes i i_in in
      let k : ℕ = it.0 in
      let m : ℕ = it.1 in
      let at = it.2 in
      let a : Point = point_of path k in
      let b : Point = point_of path (k + 1) in
      let both = west_is a b (part_way a b (axes k at.in_path)) (sym (unit_way i k m at) ∙ way) in
      let across = toward_same a.y b.y m both.0 in
      let along = toward_down a.x b.x m both.1 in
      let is_y : y ≡ a.y = sym ey ∙ ap row at.from ∙ across in
      let is_x : x ≡ a.x - m = sym ex ∙ ap column at.from ∙ along in (
        k,
        record {
          inside = at.in_path;
          goes = record { start = sym both.0 ∙ sym is_y; end = sym is_y; from = omega (arith, is_x, at.in_part, both); to = omega (arith, is_x) };
        },
      )

-- ---- darts

pub path_of_lesser : (p : PlaneModel) (points : PointsModel) (d : ℕ) → is_lesser p d ≡ true → dart_path p points d ≡ path_along p points d
path_of_lesser p points d less = cond-true (is_lesser p d) (path_along p points d) (reverse (path_along p points (reverse_dart p d))) less

pub path_of_greater : (p : PlaneModel) (points : PointsModel) (d : ℕ) → is_lesser p d ≡ false → dart_path p points d ≡ reverse (path_along p points (reverse_dart p d))
path_of_greater p points d greater = cond-false (is_lesser p d) (path_along p points d) (reverse (path_along p points (reverse_dart p d))) greater

module _ (p : PlaneModel) (shape : ShapeModel) (points : PointsModel) (plane : IsPlane p) (is : IsShape p shape) (whole : length points.vertices ≡ vertices p)
    (draws : Draws p shape points) where
  abbrev w : Ways
  w = ways_of p points

  ends : HasEnds p
  ends = plane_ends p plane

  are : AreWays (ways_of p points)
  are = are_ways p shape points plane is whole draws

  axes : (d : ℕ) → d < darts p → is_lesser p d ≡ true → IsOnAxes (path_along p points d)
  axes = path_axes p shape points plane is whole draws

  own_units : (d : ℕ) → is_lesser p d ≡ true → dart_units p points d ≡ units (path_along p points d)
  own_units = lesser_units p shape points plane is whole draws

  back_lesser : (d : ℕ) → d < darts p → is_lesser p d ≡ false → is_lesser p (reverse_dart p d) ≡ true
  back_lesser = back_is_lesser p shape points plane is whole draws

  -- a step that arrives along a lesser dart
  arriving : (q : Direction) (d x y : ℕ) → d < darts p → is_lesser p d ≡ true → Arrives (path_along p points d) q x y → (i : ℕ) × Ends (ways_of p points) q d i x y
  arriving q d x y d_in less a = (
    a.i,
    record {
      dart_in = d_in;
      step_in = omega (arith, a.inside, ap length (own_units d less));
      goes = ap (λ (u : List Point). direction_between (point_of u a.i) (point_of u (a.i + 1))) (own_units d less) ∙ a.way;
      at_x = ap (λ (u : List Point). (point_of u (a.i + 1)).x) (own_units d less) ∙ a.at_x;
      at_y = ap (λ (u : List Point). (point_of u (a.i + 1)).y) (own_units d less) ∙ a.at_y;
    },
  )

  -- one that departs along the lesser dart arrives along the other
  departing : (q : Direction) (d x y : ℕ) → d < darts p → is_lesser p (reverse_dart p d) ≡ true → Departs (path_along p points (reverse_dart p d)) q x y
      → (i : ℕ) × Ends (ways_of p points) (opposite_of q) d i x y
  departing q d x y d_in less a =
      let r : ℕ = reverse_dart p d in
      let r_in = ends.reverse_dart_in_range d d_in in
      let back = ends.reverse_dart_back d d_in in
      let size = ap length (own_units r less) in
      let j : ℕ = length (dart_units p points r) - 1 - 1 - a.i in
      let back_size = are.back_steps r r_in in (
        j,
        subst (λ (e : ℕ). Ends (ways_of p points) (opposite_of q) e j x y) back (record {
          dart_in = are.back_in r r_in;
          step_in = omega (arith, a.inside, size, back_size);
          goes = are.back_way r j a.i r_in (omega (arith, a.inside, size))
              ∙ ap opposite_of (ap (λ (u : List Point). direction_between (point_of u a.i) (point_of u (a.i + 1))) (own_units r less) ∙ a.way);
          at_x = are.back_x r (j + 1) a.i r_in (omega (arith, a.inside, size)) ∙ ap (λ (u : List Point). (point_of u a.i).x) (own_units r less) ∙ a.at_x;
          at_y = are.back_y r (j + 1) a.i r_in (omega (arith, a.inside, size)) ∙ ap (λ (u : List Point). (point_of u a.i).y) (own_units r less) ∙ a.at_y;
        }),
      )

  -- a step of the other dart, along the lesser one
  along_lesser : (q : Direction) (d i x y : ℕ) → is_lesser p (reverse_dart p d) ≡ true → Ends (ways_of p points) q d i x y → Departs (path_along p points (reverse_dart p d)) (opposite_of q) x y
  along_lesser q d i x y less e =
      let r : ℕ = reverse_dart p d in
      let d_in = e.dart_in in
      let i_in = e.step_in in
      let size = ap length (own_units r less) in
      let back_size = are.back_steps d d_in in
      let j : ℕ = length (dart_units p points d) - 1 - 1 - i in
      let same = own_units r less in
      record {
        i = j;
        inside = omega (arith, i_in, size, back_size);
        way = ap (λ (u : List Point). direction_between (point_of u j) (point_of u (j + 1))) (sym same)
            ∙ are.back_way d j i d_in (omega (arith, i_in)) ∙ ap opposite_of e.goes;
        at_x = ap (λ (u : List Point). (point_of u j).x) (sym same) ∙ are.back_x d j (i + 1) d_in (omega (arith, i_in)) ∙ e.at_x;
        at_y = ap (λ (u : List Point). (point_of u j).y) (sym same) ∙ are.back_y d j (i + 1) d_in (omega (arith, i_in)) ∙ e.at_y;
      }

  pub north_ends : (d x y : ℕ) → PassesNorth p points d x y → (i : ℕ) × Ends (ways_of p points) North d i x y
  north_ends d x y passed =
      let d_in = passed.1 in
      let g : GoesAt column row (dart_path p points d) passed.0 x y =
      record { inside = passed.2.0; goes = record { start = passed.2.1; end = passed.2.2; from = passed.2.3; to = passed.2.4 } } in
      elim (cases_Bool (is_lesser p d)) [
        | inl less ↦ arriving North d x y d_in less
            (north_arrives (path_along p points d) (axes d d_in less) passed.0 x y
            (subst (λ (path : List Point). GoesAt column row path passed.0 x y) (path_of_lesser p points d less) g))
        | inr greater ↦
            let less = back_lesser d d_in greater in
            let r : ℕ = reverse_dart p d in
            let back = back_in_reverse column row (path_along p points r) passed.0 x y
            (subst (λ (path : List Point). GoesAt column row path passed.0 x y) (path_of_greater p points d greater) g) in
            departing South d x y d_in less (south_departs (path_along p points r) (axes r (ends.reverse_dart_in_range d d_in) less) back.0 x y back.1)
      ]

  pub east_ends : (d x y : ℕ) → PassesEast p points d x y → (i : ℕ) × Ends (ways_of p points) East d i x y
  east_ends d x y passed =
      let d_in = passed.1 in
      let g : GoesAt row column (dart_path p points d) passed.0 y x =
      record { inside = passed.2.0; goes = record { start = passed.2.1; end = passed.2.2; from = passed.2.3; to = passed.2.4 } } in
      elim (cases_Bool (is_lesser p d)) [
        | inl less ↦ arriving East d x y d_in less
            (east_arrives (path_along p points d) (axes d d_in less) passed.0 x y
            (subst (λ (path : List Point). GoesAt row column path passed.0 y x) (path_of_lesser p points d less) g))
        | inr greater ↦
            let less = back_lesser d d_in greater in
            let r : ℕ = reverse_dart p d in
            let back = back_in_reverse row column (path_along p points r) passed.0 y x
            (subst (λ (path : List Point). GoesAt row column path passed.0 y x) (path_of_greater p points d greater) g) in
            departing West d x y d_in less (west_departs (path_along p points r) (axes r (ends.reverse_dart_in_range d d_in) less) back.0 x y back.1)
      ]

  passes_north : (d x y : ℕ) → d < darts p → (k : ℕ) × GoesAt column row (dart_path p points d) k x y → PassesNorth p points d x y
  passes_north d x y d_in g = (g.0, d_in, (g.1.inside, g.1.goes.start, g.1.goes.end, g.1.goes.from, g.1.goes.to))

  passes_east : (d x y : ℕ) → d < darts p → (k : ℕ) × GoesAt row column (dart_path p points d) k y x → PassesEast p points d x y
  passes_east d x y d_in g = (g.0, d_in, (g.1.inside, g.1.goes.start, g.1.goes.end, g.1.goes.from, g.1.goes.to))

  pub ends_north : (d i x y : ℕ) → Ends (ways_of p points) North d i x y → PassesNorth p points d x y
  ends_north d i x y e =
      let d_in = e.dart_in in
      let i_in = e.step_in in
      elim (cases_Bool (is_lesser p d)) [
        | inl less ↦
            let same = own_units d less in
            passes_north d x y d_in
            (subst (λ (path : List Point). (k : ℕ) × GoesAt column row path k x y) (sym (path_of_lesser p points d less))
            (north_part (path_along p points d) (axes d d_in less) i x y (omega (arith, i_in, ap length same))
            (ap (λ (u : List Point). direction_between (point_of u i) (point_of u (i + 1))) (sym same) ∙ e.goes)
            (ap (λ (u : List Point). (point_of u (i + 1)).x) (sym same) ∙ e.at_x)
            (ap (λ (u : List Point). (point_of u (i + 1)).y) (sym same) ∙ e.at_y)))
        | inr greater ↦
            let less = back_lesser d d_in greater in
            let r : ℕ = reverse_dart p d in
            let a = along_lesser North d i x y less e in
            let part = south_part (path_along p points r) (axes r (ends.reverse_dart_in_range d d_in) less) a.i x y a.inside a.way a.at_x a.at_y in
            passes_north d x y d_in
            (subst (λ (path : List Point). (k : ℕ) × GoesAt column row path k x y) (sym (path_of_greater p points d greater))
            (goes_in_reverse column row (path_along p points r) part.0 x y part.1))
      ]

  pub ends_east : (d i x y : ℕ) → Ends (ways_of p points) East d i x y → PassesEast p points d x y
  ends_east d i x y e =
      let d_in = e.dart_in in
      let i_in = e.step_in in
      elim (cases_Bool (is_lesser p d)) [
        | inl less ↦
            let same = own_units d less in
            passes_east d x y d_in
            (subst (λ (path : List Point). (k : ℕ) × GoesAt row column path k y x) (sym (path_of_lesser p points d less))
            (east_part (path_along p points d) (axes d d_in less) i x y (omega (arith, i_in, ap length same))
            (ap (λ (u : List Point). direction_between (point_of u i) (point_of u (i + 1))) (sym same) ∙ e.goes)
            (ap (λ (u : List Point). (point_of u (i + 1)).x) (sym same) ∙ e.at_x)
            (ap (λ (u : List Point). (point_of u (i + 1)).y) (sym same) ∙ e.at_y)))
        | inr greater ↦
            let less = back_lesser d d_in greater in
            let r : ℕ = reverse_dart p d in
            let a = along_lesser East d i x y less e in
            let part = west_part (path_along p points r) (axes r (ends.reverse_dart_in_range d d_in) less) a.i x y a.inside a.way a.at_x a.at_y in
            passes_east d x y d_in
            (subst (λ (path : List Point). (k : ℕ) × GoesAt row column path k y x) (sym (path_of_greater p points d greater))
            (goes_in_reverse row column (path_along p points r) part.0 y x part.1))
      ]
