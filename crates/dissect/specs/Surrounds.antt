-- A rectangle round a map, and its bridge.
use Rattle.std.specs.Prelude.{◌≡◌, ℕ, ◌+◌, ◌%◌, ◌<◌}
use Rattle.dissect.specs.DartMaps.{DartMap, no_dart, IsCut, IsCutUp}
use Rattle.dissect.specs.FaceNumbers.{AreFaceNumbers}

-- A rectangle beside the map: the darts w.darts + 0 .. 3 go round its inside to the east, north, west and south,
-- and w.darts + 4 .. 7 are their reverses round its outside. The vertex w.vertices + k is where dart k arrives.
pub record IsSurrounded (w new : DartMap) : Type 0 where
  pub darts : new.darts ≡ w.darts + 8
  pub vertices : new.vertices ≡ w.vertices + 4
  pub next_old : (a : ℕ) → a < w.darts → new.next a ≡ w.next a
  pub prev_old : (a : ℕ) → a < w.darts → new.prev a ≡ w.prev a
  pub reverse_dart_old : (a : ℕ) → a < w.darts → new.reverse_dart a ≡ w.reverse_dart a
  pub head_old : (a : ℕ) → a < w.darts → new.head a ≡ w.head a
  pub direction_old : (a : ℕ) → a < w.darts → new.direction a ≡ w.direction a
  pub angle_old : (a : ℕ) → a < w.darts → new.angle a ≡ w.angle a
  pub before_old : (a : ℕ) → a < w.darts → new.before a ≡ w.before a
  pub next_inside : (k : ℕ) → k < 4 → new.next (w.darts + k) ≡ w.darts + (k + 1) % 4
  pub next_outside : (k : ℕ) → k < 4 → new.next (w.darts + 4 + k) ≡ w.darts + 4 + (k + 3) % 4
  pub prev_inside : (k : ℕ) → k < 4 → new.prev (w.darts + k) ≡ w.darts + (k + 3) % 4
  pub prev_outside : (k : ℕ) → k < 4 → new.prev (w.darts + 4 + k) ≡ w.darts + 4 + (k + 1) % 4
  pub reverse_dart_inside : (k : ℕ) → k < 4 → new.reverse_dart (w.darts + k) ≡ w.darts + 4 + k
  pub reverse_dart_outside : (k : ℕ) → k < 4 → new.reverse_dart (w.darts + 4 + k) ≡ w.darts + k
  pub head_inside : (k : ℕ) → k < 4 → new.head (w.darts + k) ≡ w.vertices + k
  pub head_outside : (k : ℕ) → k < 4 → new.head (w.darts + 4 + k) ≡ w.vertices + (k + 3) % 4
  pub direction_inside : (k : ℕ) → k < 4 → new.direction (w.darts + k) ≡ k
  pub direction_outside : (k : ℕ) → k < 4 → new.direction (w.darts + 4 + k) ≡ (k + 2) % 4
  pub angle_inside : (k : ℕ) → k < 4 → new.angle (w.darts + k) ≡ 1
  pub angle_outside : (k : ℕ) → k < 4 → new.angle (w.darts + 4 + k) ≡ 3
  pub before_inside : (k : ℕ) → k < 4 → new.before (w.darts + k) ≡ no_dart
  pub before_outside : (k : ℕ) → k < 4 → new.before (w.darts + 4 + k) ≡ no_dart

-- a map in its rectangle, with which it is connected by a cut from a right turn of its own, on the face of the dart
-- `outer`, to a side of the rectangle, and then cut up further
pub record IsEnclosed (w : DartMap) (outer : ℕ) (new : DartMap) : Type 0 where
  pub surrounded : DartMap
  pub surround : IsSurrounded w surrounded
  pub bridged : DartMap
  pub right : ℕ
  pub side : ℕ
  pub direction : ℕ
  pub right_in : right < w.darts
  pub same_face : (face_number : ℕ → ℕ) → AreFaceNumbers w face_number → face_number right ≡ face_number outer
  pub side_in : side < 4
  pub bridge : IsCut surrounded right (w.darts + side) direction bridged
  pub cut_up : IsCutUp bridged new
