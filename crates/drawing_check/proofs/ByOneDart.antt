-- A drawing of a shape has its faces as regions just where the outer face lies outside at one place.
use Rattle.std.proofs.Common.{◌≡◌, ◌<◌, ◌↔◌, ℕ, zero, suc, ◌+◌, ◌-◌, length, refl, sym, ap, ◌∙◌, arith}
use Rattle.geometry.specs.declared.direction.Direction.{Direction}
use Rattle.geometry.specs.declared.direction.Direction.TheVariants.{East, North, West, South}
use Rattle.faces.specs.Planes.{PlaneModel, IsPlane, darts, vertices, reverse_dart, face_at}
use Rattle.geometry.specs.Directions.{opposite_of}
use Rattle.ortho_rep.specs.Shapes.{ShapeModel}
use Rattle.ortho_rep.specs.Representation.{IsShape}
use Rattle.ortho_rep.specs.Points.{PointsModel}
use Rattle.drawing_check.specs.Draws.{Draws}
use Rattle.drawing_check.specs.Regions.{PassesNorth, IsRegionMap, HasRegions}
use Rattle.drawing_check.specs.Outside.{IsWestmost, IsLevel}
use Rattle.drawing_check.proofs.Ways.{AreWays}
use Rattle.drawing_check.proofs.CellLevels.{Ends, IsStepMap, map_from_north, map_from_level}
use Rattle.drawing_check.proofs.Drawn.{ways_of, are_ways}
use Rattle.drawing_check.proofs.Passing.{north_ends, east_ends, ends_north, ends_east}

module _ (p : PlaneModel) (shape : ShapeModel) (points : PointsModel) (plane : IsPlane p) (is : IsShape p shape) (whole : length points.vertices ≡ vertices p)
    (draws : Draws p shape points) where
  are : AreWays (ways_of p points)
  are = are_ways p shape points plane is whole draws

  to_north : (d i x y : ℕ) → Ends (ways_of p points) North d i x y → PassesNorth p points d x y
  to_north = ends_north p shape points plane is whole draws

  region_map : (r : ℕ → ℕ → ℕ) → IsStepMap (ways_of p points) p.outer r → IsRegionMap p points r
  region_map r map = record {
    north = λ d x y passed. let e = north_ends p shape points plane is whole draws d x y passed in map.north d e.0 x y e.1;
    east = λ d x y passed. let e = east_ends p shape points plane is whole draws d x y passed in map.east d e.0 x y e.1;
    beside = λ x y none. map.beside x y (λ d i e. none d (to_north d i x y e));
    above = λ x y none. map.above x y (λ d i e. none d (ends_east p shape points plane is whole draws d i x y e));
    west = map.west;
    south = map.south;
  }

  -- from the west to the first dart in a row
  outside : (r : ℕ → ℕ → ℕ) → IsRegionMap p points r → (x y : ℕ) → ((x' : ℕ) → x' < x → (e : ℕ) → ¬ PassesNorth p points e x' y) → r x y ≡ p.outer
  outside r map zero y none = map.west y
  outside r map (suc x) y none =
      let up : x + 1 ≡ suc x = omega arith in
      ap (λ (k : ℕ). r k y) (sym up) ∙ sym (map.beside x y (none x (omega arith))) ∙ outside r map x y (λ x' less. none x' (omega arith))

  pub regions_by_westmost : (d x y : ℕ) → PassesNorth p points d x y → IsWestmost p points x y → HasRegions p points ↔ (face_at p d ≡ p.outer)
  regions_by_westmost d x y passed west = (
    λ regions. sym (regions.1.north d x y passed).0 ∙ outside regions.0 regions.1 x y west,
    λ outer.
        let e = north_ends p shape points plane is whole draws d x y passed in
        let map = map_from_north (ways_of p points) are p.outer d e.0 x y e.1 (λ x' less c k l. west x' less c (to_north c k x' y l)) outer in
        (map.0, region_map map.0 map.1),
  )

  -- the face of a dart where nothing goes north
  flat_face : (r : ℕ → ℕ → ℕ) → IsRegionMap p points r → IsLevel p points → (d : ℕ) → d < darts p → face_at p d ≡ p.outer
  flat_face r map level d d_in = by_way ((ways_of p points).way d 0) refl
    where
      all : (x y : ℕ) → r x y ≡ p.outer
      all x y = outside r map x y (λ x' less e. level e x' y)

      by_way : (q : Direction) → (ways_of p points).way d 0 ≡ q → face_at p d ≡ p.outer
      by_way North on = absurd (level d _ _ (to_north d 0 ((ways_of p points).x d (0 + 1)) ((ways_of p points).y d (0 + 1))
          (record { dart_in = d_in; step_in = are.some d d_in; goes = on; at_x = refl; at_y = refl })))
      by_way East on =
          sym (map.east d ((ways_of p points).x d (0 + 1)) ((ways_of p points).y d (0 + 1)) (ends_east p shape points plane is whole draws d 0
          ((ways_of p points).x d (0 + 1)) ((ways_of p points).y d (0 + 1)) (record { dart_in = d_in; step_in = are.some d d_in; goes = on; at_x = refl; at_y = refl }))).0
          ∙ all ((ways_of p points).x d (0 + 1)) ((ways_of p points).y d (0 + 1) + 1)
      by_way West on =
          let some = are.some d d_in in
          let size = are.back_steps d d_in in
          let j : ℕ = (ways_of p points).steps d - 1 in
          let e : Ends (ways_of p points) East (reverse_dart p d) j ((ways_of p points).x d 0) ((ways_of p points).y d 0) = record {
            dart_in = are.back_in d d_in;
            step_in = omega (arith, some, size);
            goes = are.back_way d j 0 d_in (omega (arith, some)) ∙ ap opposite_of on;
            at_x = are.back_x d (j + 1) 0 d_in (omega (arith, some));
            at_y = are.back_y d (j + 1) 0 d_in (omega (arith, some));
          } in
          ap (face_at p) (sym (are.back_back d d_in))
          ∙ sym (map.east (reverse_dart p d) ((ways_of p points).x d 0) ((ways_of p points).y d 0)
          (ends_east p shape points plane is whole draws (reverse_dart p d) j ((ways_of p points).x d 0) ((ways_of p points).y d 0) e)).1
          ∙ all ((ways_of p points).x d 0) ((ways_of p points).y d 0)
      by_way South on =
          let some = are.some d d_in in
          let size = are.back_steps d d_in in
          let j : ℕ = (ways_of p points).steps d - 1 in
          let e : Ends (ways_of p points) North (reverse_dart p d) j ((ways_of p points).x d 0) ((ways_of p points).y d 0) = record {
            dart_in = are.back_in d d_in;
            step_in = omega (arith, some, size);
            goes = are.back_way d j 0 d_in (omega (arith, some)) ∙ ap opposite_of on;
            at_x = are.back_x d (j + 1) 0 d_in (omega (arith, some));
            at_y = are.back_y d (j + 1) 0 d_in (omega (arith, some));
          } in
          absurd (level (reverse_dart p d) ((ways_of p points).x d 0) ((ways_of p points).y d 0)
          (to_north (reverse_dart p d) j ((ways_of p points).x d 0) ((ways_of p points).y d 0) e))

  pub regions_of_level : (d : ℕ) → d < darts p → IsLevel p points → HasRegions p points ↔ (face_at p d ≡ p.outer)
  regions_of_level d d_in level = (
    λ regions. flat_face regions.0 regions.1 level d d_in,
    λ outer.
        let map = map_from_level (ways_of p points) are p.outer d d_in (λ x y e k l. level e x y (to_north e k x y l)) outer in
        (map.0, region_map map.0 map.1),
  )
