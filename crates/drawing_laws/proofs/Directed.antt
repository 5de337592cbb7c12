-- What is closed in one of four directions is closed to the north of a map that is turned.
use Rattle.std.proofs.Common.{◌≡◌, ℕ, ◌-◌, ◌<◌, Bool, true, arith}
use Rattle.dissect.specs.Boxes.{BoxesModel, AreBoxes, dart_map}
use Rattle.drawing_laws.specs.Orders.{IsClosedAcross}
use Rattle.drawing_laws.proofs.FaceNumbering.{face_numbers}
use Rattle.drawing_laws.proofs.Connecting.{holds_outside}
use Rattle.drawing_laws.proofs.Rotating.{rotated, rotated_sound, rotated_cut}

pub directed : (b : BoxesModel) (k : ℕ) (s : ℕ → Bool) → (boxes : AreBoxes b) → k < 4 → IsClosedAcross (dart_map b) k s
    → (a : ℕ) → a < b.darts → s a ≡ true → s boxes.faces.outside ≡ true
directed b k s boxes few closed a a_in on =
    let r : ℕ = 4 - k in
    let w = dart_map b in
    holds_outside (rotated w r) (rotated_sound w r boxes.sound) boxes.connected boxes.faces.outside
    (face_numbers (rotated w r) (rotated_sound w r boxes.sound) (rotated_cut w r boxes.faces)) s closed.whole
    (λ d d_in way. closed.across d d_in (omega (arith, way, few, boxes.sound.meeting.quarter d d_in)))
    a a_in on
