-- What the map of a plane keeps of it once its edges have their bends.
use Rattle.std.specs.Prelude.{◌≡◌, ℕ, ◌+◌, ◌-◌, ◌*◌, ◌<◌, ◌≤◌, List}
use Rattle.faces.specs.Planes.{PlaneModel, darts, vertices, head, face_at}
pub use Rattle.dissect.specs.Directions.{AreDirections}
use Rattle.ortho_rep.specs.declared.turn_strings.Turn.{Turn}
use Rattle.ortho_rep.specs.Representation.{bends_of}
use Rattle.dissect.specs.DartMaps.{DartMap, reflex_turns}
use Rattle.dissect.specs.FaceNumbers.{HasTurns}

-- the first darts of the map are those of the plane p: they arrive at its vertices, where vertex v has the number v - 1,
-- and have the angles a there
pub record KeepsDarts (p : PlaneModel) (a : ℕ → ℕ) (w : DartMap) : Type 0 where
  pub few : darts p ≤ w.darts
  pub heads : (d : ℕ) → d < darts p → w.head d ≡ head p d - 1
  pub angles : (d : ℕ) → d < darts p → w.angle d ≡ a d

-- the faces of the map turn as faces of a drawing do, and the darts of the plane p are of the faces that p gives them
pub record KeepsFaces (p : PlaneModel) (w : DartMap) : Type 0 where
  pub face_number : ℕ → ℕ
  pub turns : HasTurns w face_number p.outer
  pub faces : (d : ℕ) → d < darts p → face_number d ≡ face_at p d

-- each bend of the strings s is a vertex more, two darts more, and at most a right turn more
pub record CountsBends (p : PlaneModel) (s : ℕ → List Turn) (w : DartMap) : Type 0 where
  pub dart_count : w.darts ≡ darts p + 2 * bends_of (darts p) s
  pub vertex_count : w.vertices ≡ vertices p + bends_of (darts p) s
  pub right_turns : reflex_turns w ≤ 2 * vertices p + bends_of (darts p) s
