use Rattle.std.proofs.Common.{◌≡◌, ℕ, ◌<◌, length, slice_index}
use Rattle.embedding.specs.Faces.{degree_in}
use Rattle.embedding.specs.Walk.{at}
use Rattle.embedding.proofs.genus.count_degrees.Given as goal

abbrev pub invariant-loop-face : goal.invariant-loop-face
invariant-loop-face l = record {
  size : length l.degrees ≡ length l.initial.degrees;
  degrees : (k : ℕ) → k < length l.degrees → slice_index l.degrees k ≡ degree_in l.face-index (at l.faces) k;
}
