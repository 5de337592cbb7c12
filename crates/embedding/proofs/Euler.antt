-- Euler's formula: whether the last rule is broken.
use Rattle.std.proofs.Common.{◌≡◌, ◌≢◌, ◌↔◌, ℕ, ◌+◌, ◌*◌, Bool, true, false, List, length, refl, sym, arith}
use Rattle.std.specs.Bool.{IsTrue}
use Rattle.embedding.specs.declared.breaks.Rule.TheVariants.{Range, Loop, Multi, Asymmetric, Edgeless, Degree, Disconnected, Genus}
use Rattle.embedding.specs.Darts.{dart_count, next_of}
use Rattle.embedding.specs.Faces.{HasFaces}
use Rattle.embedding.specs.Rules.{Breaks, KeepsBefore}
use Rattle.embedding.specs.Tables.{IsRotation}
use Rattle.embedding.specs.Walk.{next_in}
use Rattle.embedding.proofs.EachList.{yes_is, no_is}
use Rattle.embedding.proofs.Faced.{next_is, same_faces, tied}
use Rattle.embedding.proofs.Unique.{one_count}

-- the last rule is kept where vertices and faces are the edges and two more
pub keeps_genus : (g : List (List ℕ)) (face : ℕ → ℕ) (f : ℕ) → HasFaces (dart_count g) (next_of g) face f → 2 * (length g + f) ≡ dart_count g + 4 → Breaks g Genus → ⊥
keeps_genus g face f faces euler (other, count, others, broken) =
    let same = one_count (dart_count g) (next_of g) face other f count faces others in
    broken (omega arith)

-- all rules are kept where the first seven are, and the last
pub eight_rules : (g : List (List ℕ)) → KeepsBefore g 8 → (Breaks g Genus → ⊥) → KeepsBefore g 9
eight_rules g rules genus Range h = rules Range (omega arith)
eight_rules g rules genus Loop h = rules Loop (omega arith)
eight_rules g rules genus Multi h = rules Multi (omega arith)
eight_rules g rules genus Asymmetric h = rules Asymmetric (omega arith)
eight_rules g rules genus Edgeless h = rules Edgeless (omega arith)
eight_rules g rules genus Degree h = rules Degree (omega arith)
eight_rules g rules genus Disconnected h = rules Disconnected (omega arith)
eight_rules g rules genus Genus h = genus

-- faces by the rotation are faces of the darts
pub faces_of : (g : List (List ℕ)) → KeepsBefore g 8 → (rotation : List ℕ) → IsRotation g (dart_count g) rotation → (face : ℕ → ℕ) (f : ℕ)
    → HasFaces (dart_count g) (next_in rotation) face f → HasFaces (dart_count g) (next_of g) face f
faces_of g rules rotation l face f h =
    same_faces (dart_count g) (next_in rotation) (next_of g) face face f (tied g rules rotation l).walked.inside (λ d b. sym (next_is g rules rotation l d b)) (λ d b. refl) h

-- a test by the number of faces
pub genus_told : (g : List (List ℕ)) → (face : ℕ → ℕ) (f : ℕ) → HasFaces (dart_count g) (next_of g) face f → (differ : Bool)
    → (differ ≡ true → 2 * (length g + f) ≢ dart_count g + 4) → (differ ≡ false → 2 * (length g + f) ≡ dart_count g + 4) → (IsTrue differ ↔ Breaks g Genus)
genus_told g face f h true apart same = yes_is (face, f, h, apart refl)
genus_told g face f h false apart same = no_is (keeps_genus g face f h (same refl))
