-- Points that are taken from coordinates in order have regions: each cell lies in the face that is the label of its box.
use Rattle.std.proofs.Common.{◌≡◌, ℕ, ◌<◌, ◌∙◌, arith, sym, refl, inl, inr}
use Rattle.faces.specs.Planes.{PlaneModel, IsPlane, darts, reverse_dart, face_at}
use Rattle.faces.proofs.Ends.{plane_ends}
use Rattle.ortho_rep.specs.Points.{PointsModel}
use Rattle.ortho_rep.specs.Shapes.{ShapeModel}
use Rattle.dissect.specs.DartMaps.{DartMap}
use Rattle.dissect.specs.Paths.{IsPart}
use Rattle.dissect.specs.Boxes.{BoxesModel, dart_map}
use Rattle.dissect.specs.Boxed.{IsBoxed}
use Rattle.dissect.specs.Monotone.{IsMonotone, AreTaken, AreLeastPoints, tail}
use Rattle.drawing_check.specs.Regions.{PassesNorth, PassesEast, HasRegions}
use Rattle.drawing_laws.specs.CellFaces.{PassesRow, PassesColumn}
use Rattle.drawing_laws.proofs.Sides.{dart_goes}
use Rattle.drawing_laws.proofs.Segments.{goes_runs, DartRuns}
use Rattle.drawing_laws.proofs.Parts.{part_in, part_back}
use Rattle.drawing_laws.proofs.CellLabels.{boxed_labels}
use Rattle.drawing_laws.proofs.DartPaths.{path_part, part_path}

module _ (p : PlaneModel) (shape : ShapeModel) (b : BoxesModel) (plane : IsPlane p) (boxed : IsBoxed p shape b) (x y : ℕ → ℕ)
    (monotone : IsMonotone (dart_map b) x y) (points : PointsModel) (taken : AreTaken b x y points) where
  -- a dart of the boxes that runs along a side has the direction in which it does
  runs_way : (k a i j : ℕ) → k < 4 → a < b.darts → DartRuns (dart_map b) x y k a i j → (dart_map b).direction a ≡ k
  runs_way k a i j few a_in runs =
      let w : DartMap = dart_map b in
      let sound = boxed.boxes.sound in
      goes_runs (w.direction a) k x y (tail w a) (w.head a) i j (sound.meeting.quarter a a_in) few
      (dart_goes w sound x y monotone (w.direction a) a a_in refl) runs

  -- where a dart of the plane passes a side, a part of it does
  north_row : (d i j : ℕ) → PassesNorth p points d i j → (d < darts p) × ((a : ℕ) × IsPart (dart_map b) d a × PassesRow (dart_map b) x y a i j)
  north_row d i j (k, d_in, (inside, from, to, low, high)) =
      let (a, part, runs) = path_part p shape b plane boxed x y monotone points taken d d_in 1 i j (omega arith) (k, inside, (from, to, low, high)) in
      let a_in : a < b.darts = part_in p shape b plane boxed d a part in
      (d_in, (a, part, (a_in, runs_way 1 a i j (omega arith) a_in runs, runs.1, runs.2, runs.3)))

  east_column : (d i j : ℕ) → PassesEast p points d i j → (d < darts p) × ((a : ℕ) × IsPart (dart_map b) d a × PassesColumn (dart_map b) x y a i j)
  east_column d i j (k, d_in, (inside, from, to, low, high)) =
      let (a, part, runs) = path_part p shape b plane boxed x y monotone points taken d d_in 0 i j (omega arith) (k, inside, (from, to, low, high)) in
      let a_in : a < b.darts = part_in p shape b plane boxed d a part in
      (d_in, (a, part, (a_in, runs_way 0 a i j (omega arith) a_in runs, runs.1, runs.2, runs.3)))

  -- and the other way round
  row_north : (d a i j : ℕ) → d < darts p → IsPart (dart_map b) d a → PassesRow (dart_map b) x y a i j → PassesNorth p points d i j
  row_north d a i j d_in part (a_in, way, line, low, high) =
      let level = (dart_goes (dart_map b) boxed.boxes.sound x y monotone 1 a a_in way).1 in
      let (n, inside, (from, to, below, above)) =
      part_path p shape b plane boxed x y monotone points taken d d_in 1 i j (omega arith) (a, part, (level ∙ line, line, low, high)) in
      (n, d_in, (inside, from, to, below, above))

  column_east : (d a i j : ℕ) → d < darts p → IsPart (dart_map b) d a → PassesColumn (dart_map b) x y a i j → PassesEast p points d i j
  column_east d a i j d_in part (a_in, way, line, low, high) =
      let level = (dart_goes (dart_map b) boxed.boxes.sound x y monotone 0 a a_in way).1 in
      let (n, inside, (from, to, below, above)) =
      part_path p shape b plane boxed x y monotone points taken d d_in 0 i j (omega arith) (a, part, (level ∙ line, line, low, high)) in
      (n, d_in, (inside, from, to, below, above))

  -- a part's label, and that of its reverse
  faces_of : (d a : ℕ) → d < darts p → IsPart (dart_map b) d a →
      (boxed.enclosed.labelled.label a ≡ face_at p d) × (boxed.enclosed.labelled.label ((dart_map b).reverse_dart a) ≡ face_at p (reverse_dart p d))
  faces_of d a d_in part =
      let labelling = boxed.enclosed.labelled.labelling in (
        labelling.parts d a d_in part,
        labelling.parts (reverse_dart p d) ((dart_map b).reverse_dart a) ((plane_ends p plane).reverse_dart_in_range d d_in)
            (part_back p shape b plane boxed d a d_in part),
      )

  pub taken_points_have_regions : HasRegions p points
  taken_points_have_regions =
      let (r, are) = boxed_labels p shape b x y boxed monotone in
      let sides = boxed.enclosed.labelled.labelling.sides in (
        r,
        record {
          north = λ d i j passes.
              let (d_in, (a, part, row)) = north_row d i j passes in
              let beside = are.north a i j row in
              let faces = faces_of d a d_in part in
              (beside.0 ∙ faces.0, beside.1 ∙ faces.1);
          east = λ d i j passes.
              let (d_in, (a, part, column)) = east_column d i j passes in
              let beside = are.east a i j column in
              let faces = faces_of d a d_in part in
              (beside.0 ∙ faces.0, beside.1 ∙ faces.1);
          beside = λ i j none. elim (are.beside i j) [
            | inl (a, row) ↦ elim (sides a row.0) [
              | inl (d, d_in, part) ↦ absurd (none d (row_north d a i j d_in part row))
              | inr level ↦ (are.north a i j row).0 ∙ sym level ∙ sym (are.north a i j row).1
            ]
            | inr one ↦ one
          ];
          above = λ i j none. elim (are.above i j) [
            | inl (a, column) ↦ elim (sides a column.0) [
              | inl (d, d_in, part) ↦ absurd (none d (column_east d a i j d_in part column))
              | inr level ↦ (are.east a i j column).1 ∙ level ∙ sym (are.east a i j column).0
            ]
            | inr one ↦ one
          ];
          west = are.west;
          south = are.south;
        },
      )

pub least_points_have_regions : (p : PlaneModel) (shape : ShapeModel) (b : BoxesModel) (points : PointsModel) → IsPlane p → IsBoxed p shape b →
    AreLeastPoints b points → HasRegions p points
least_points_have_regions p shape b points plane boxed laid =
    taken_points_have_regions p shape b plane boxed laid.x laid.y laid.monotone points laid.taken
