use Rattle.std.proofs.Common.{ℕ}
use Rattle.embedding.specs.Darts.{dart_count, next_of}
use Rattle.embedding.specs.Faces.{HasFaces}
use Rattle.faces.proofs.Greatest.{IsBest}
use Rattle.faces.proofs.plane.greatest_face.Given as goal

abbrev pub invariant-loop-face : goal.invariant-loop-face
invariant-loop-face l = (face : ℕ → ℕ) (f : ℕ) → HasFaces (dart_count l.graph) (next_of l.graph) face f → IsBest (dart_count l.graph) face l.face l.best l.most
