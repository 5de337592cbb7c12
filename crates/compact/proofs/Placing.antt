-- Coordinates in order, axis by axis, and the points that are taken from them.
use Rattle.std.proofs.Common.{◌≡◌, ℕ, ◌+◌, ◌%◌, ◌<◌, ◌≤◌, ◌∙◌, List, length, map, slice_index, arith, subst, ap, inl, inr}
use Rattle.std.proofs.lemmas.Bool.{cases_eq}
use Rattle.std.proofs.lemmas.List.{length-map}
use Rattle.std.proofs.lemmas.List.FromFn.{length-range_with_len}
use Rattle.dissect.specs.DartMaps.{DartMap, IsSound, no_dart}
use Rattle.dissect.specs.Paths.{turning_vertices}
use Rattle.ortho_rep.specs.declared.grid_points.Point.{Point}
use Rattle.dissect.specs.Boxes.{BoxesModel, HasEdge, dart_map}
use Rattle.compact.specs.Monotone.{tail, point_at, IsMonotone, IsAlong, AreCorners, AreCornersOf, IsAxisFault, IsCompactFault, AreLeastPoints, AreLeastOnAxis, AreWithin}
use Rattle.std.specs.List.{range_with_len}
use Rattle.ortho_rep.specs.declared.grid_points.TheConstants.{MAX_COORDINATE}
use Rattle.compact.specs.Neighbours.{AreUnder}
use Rattle.compact.proofs.Walking.{one_turning}
use Rattle.compact.specs.declared.points.CompactFault.{CompactFault}
use Rattle.compact.specs.declared.points.CompactFault.TheVariants.{Wide, Memory}

-- a dart and its reverse change places of head and tail
pub turned_round : (w : DartMap) (a : ℕ) → IsSound w → a < w.darts → tail w (w.reverse_dart a) ≡ w.head a
turned_round w a sound a_in = ap w.head (sound.tied.reverse_dart_back a a_in)

-- coordinates that keep both axes are in order
pub in_order : (w : DartMap) (x y : ℕ → ℕ) → IsSound w → IsAlong w 0 x → IsAlong w 1 y → IsMonotone w x y
in_order w x y sound along_x along_y = record {
  east = λ a a_in way.
      let back : w.direction (w.reverse_dart a) ≡ 2 = sound.straight a a_in ∙ ap (λ (d : ℕ). (d + 2) % 4) way in
      let reverse_dart_in = sound.tied.reverse_dart_in a a_in in
      let there : y (tail w a) ≤ y (w.head a) = along_y.across a a_in (λ e. omega (arith, e, way)) (λ e. omega (arith, e, way)) in
      let home : y (tail w (w.reverse_dart a)) ≤ y (w.head (w.reverse_dart a)) = along_y.across (w.reverse_dart a) reverse_dart_in (λ e. omega (arith, e, back)) (λ e. omega (arith, e, back)) in
      let same : y (tail w (w.reverse_dart a)) ≡ y (w.head a) = ap y (turned_round w a sound a_in) in
      (omega (arith, along_x.forward a a_in way), omega (arith, there, home, same));
  north = λ a a_in way.
      let back : w.direction (w.reverse_dart a) ≡ 3 = sound.straight a a_in ∙ ap (λ (d : ℕ). (d + 2) % 4) way in
      let reverse_dart_in = sound.tied.reverse_dart_in a a_in in
      let there : x (tail w a) ≤ x (w.head a) = along_x.across a a_in (λ e. omega (arith, e, way)) (λ e. omega (arith, e, way)) in
      let home : x (tail w (w.reverse_dart a)) ≤ x (w.head (w.reverse_dart a)) = along_x.across (w.reverse_dart a) reverse_dart_in (λ e. omega (arith, e, back)) (λ e. omega (arith, e, back)) in
      let same : x (tail w (w.reverse_dart a)) ≡ x (w.head a) = ap x (turned_round w a sound a_in) in
      (omega (arith, along_y.forward a a_in way), omega (arith, there, home, same));
}

-- coordinates in order keep the axis x
pub keep_x : (w : DartMap) (x y : ℕ → ℕ) → IsSound w → IsMonotone w x y → IsAlong w 0 x
keep_x w x y sound monotone = record {
  forward = λ a a_in way. omega (arith, (monotone.east a a_in way).0);
  across = λ a a_in one two. elim (cases_eq (w.direction a) 1) [
    | inl north ↦ omega (arith, (monotone.north a a_in north).1)
    | inr other ↦
        let south : w.direction a ≡ 3 = omega (arith, sound.meeting.quarter a a_in, one, two, other) in
        let back : w.direction (w.reverse_dart a) ≡ 1 = sound.straight a a_in ∙ ap (λ (d : ℕ). (d + 2) % 4) south in
        let same : x (tail w (w.reverse_dart a)) ≡ x (w.head (w.reverse_dart a)) = (monotone.north (w.reverse_dart a) (sound.tied.reverse_dart_in a a_in) back).1 in
        omega (arith, same, ap x (turned_round w a sound a_in))
  ];
}

-- and the axis y
pub keep_y : (w : DartMap) (x y : ℕ → ℕ) → IsSound w → IsMonotone w x y → IsAlong w 1 y
keep_y w x y sound monotone = record {
  forward = λ a a_in way. omega (arith, (monotone.north a a_in way).0);
  across = λ a a_in one two. elim (cases_eq (w.direction a) 0) [
    | inl east ↦ omega (arith, (monotone.east a a_in east).1)
    | inr other ↦
        let west : w.direction a ≡ 2 = omega (arith, sound.meeting.quarter a a_in, one, two, other) in
        let back : w.direction (w.reverse_dart a) ≡ 0 = sound.straight a a_in ∙ ap (λ (d : ℕ). (d + 2) % 4) west in
        let same : y (tail w (w.reverse_dart a)) ≡ y (w.head (w.reverse_dart a)) = (monotone.east (w.reverse_dart a) (sound.tied.reverse_dart_in a a_in) back).1 in
        omega (arith, same, ap y (turned_round w a sound a_in))
  ];
}

-- all paths of an edge turn at the same places
pub one_corners : (b : BoxesModel) (x y : ℕ → ℕ) (e : ℕ) (points : List Point) (one : HasEdge b e) → b.darts ≤ no_dart →
    points ≡ map (point_at x y) (turning_vertices (dart_map b) one.first one.rest) → AreCornersOf b x y e points
one_corners b x y e points one few is edge =
    is ∙ ap (map (point_at x y)) (one_turning (dart_map b) (slice_index b.edges e) one.first edge.first one.rest edge.rest few one.path edge.path)

-- the points are those of the places where a path of the edge e turns
pub record IsCornersOf (b : BoxesModel) (x y : ℕ → ℕ) (e : ℕ) (points : List Point) : Type 0 where
  pub edge : HasEdge b e
  pub is : points ≡ map (point_at x y) (turning_vertices (dart_map b) edge.first edge.rest)

-- what a fault of one axis says of both
pub x_fault : (b : BoxesModel) (fault : CompactFault) → IsAxisFault b 0 fault → IsCompactFault b fault
x_fault b Wide wide = λ x y monotone.
    let (v, v_in, far) = wide.1 x (keep_x (dart_map b) x y wide.0 monotone) in
    (v, v_in, inl far)
x_fault b Memory fault = tt

pub y_fault : (b : BoxesModel) (fault : CompactFault) → IsAxisFault b 1 fault → IsCompactFault b fault
y_fault b Wide wide = λ x y monotone.
    let (v, v_in, far) = wide.1 y (keep_y (dart_map b) x y wide.0 monotone) in
    (v, v_in, inr far)
y_fault b Memory fault = tt

-- points that are taken from coordinates in order
pub least_points : (b : BoxesModel) (x y x1 y1 x2 y2 : List ℕ) (vertices : List Point) (corners : List (List Point)) →
    x1 ≡ x → y1 ≡ y → x2 ≡ x → y2 ≡ y → IsSound (dart_map b) → IsAlong (dart_map b) 0 (λ v. slice_index x v) → IsAlong (dart_map b) 1 (λ v. slice_index y v) →
    ((z : ℕ → ℕ) → IsAlong (dart_map b) 0 z → (v : ℕ) → v < b.vertices → slice_index x v ≤ z v) →
    ((z : ℕ → ℕ) → IsAlong (dart_map b) 1 z → (v : ℕ) → v < b.vertices → slice_index y v ≤ z v) →
    AreWithin b.vertices (λ v. slice_index x v) → AreWithin b.vertices (λ v. slice_index y v) →
    vertices ≡ map (point_at (λ v. slice_index x1 v) (λ v. slice_index y1 v)) (range_with_len 0 b.old) → length corners ≡ length b.edges →
    AreCorners b (λ v. slice_index x2 v) (λ v. slice_index y2 v) (length b.edges) corners →
    AreLeastPoints b (record { vertices = vertices; corners = corners })
least_points b x y x1 y1 x2 y2 vertices corners sx1 sy1 sx2 sy2 sound along_x along_y least_x least_y within_x within_y at_vertices count at_corners =
    record {
      x = λ v. slice_index x v;
      y = λ v. slice_index y v;
      monotone = in_order (dart_map b) (λ v. slice_index x v) (λ v. slice_index y v) sound along_x along_y;
      x_least = λ x1 y1 monotone. least_x x1 (keep_x (dart_map b) x1 y1 sound monotone);
      y_least = λ x1 y1 monotone. least_y y1 (keep_y (dart_map b) x1 y1 sound monotone);
      x_within = within_x;
      y_within = within_y;
      taken = record {
        vertices = at_vertices ∙ ap (λ (xs : List ℕ). map (point_at (λ v. slice_index xs v) (λ v. slice_index y1 v)) (range_with_len 0 b.old)) sx1
            ∙ ap (λ (ys : List ℕ). map (point_at (λ v. slice_index x v) (λ v. slice_index ys v)) (range_with_len 0 b.old)) sy1;
        vertex_count = ap length at_vertices
            ∙ length-map (range_with_len 0 b.old) (point_at (λ v. slice_index x1 v) (λ v. slice_index y1 v)) ∙ length-range_with_len 0 b.old;
        count = count;
        corners = subst (λ (ys : List ℕ). AreCorners b (λ v. slice_index x v) (λ v. slice_index ys v) (length b.edges) corners) sy2
            (subst (λ (xs : List ℕ). AreCorners b (λ v. slice_index xs v) (λ v. slice_index y2 v) (length b.edges) corners) sx2 at_corners);
      };
    }

-- coordinates in the order of the darts along an axis that are nowhere above any such are the least, in a list or in a slice of it
pub least_of : (b : BoxesModel) (k : ℕ) (xs zs : List ℕ) → zs ≡ xs → IsAlong (dart_map b) k (λ v. slice_index zs v) →
    ((y : ℕ → ℕ) → IsAlong (dart_map b) k y → AreUnder b.vertices xs y) → ((v : ℕ) → v < length zs → slice_index zs v ≤ MAX_COORDINATE) →
    length xs ≡ b.vertices → AreLeastOnAxis b k xs
least_of b k xs zs same along under small count = record {
  along = subst (λ (list : List ℕ). IsAlong (dart_map b) k (λ v. slice_index list v)) same along;
  least = under;
  within = λ v v_in. subst (λ (list : List ℕ). slice_index list v ≤ MAX_COORDINATE) same (small v (omega (arith, v_in, count, ap (λ (list : List ℕ). length list) same)));
  count = count;
}
