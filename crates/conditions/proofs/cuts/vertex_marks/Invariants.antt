use Rattle.std.proofs.Common.{◌≡◌, ◌+◌, ◌<◌, ℕ, true, false, length}
use Rattle.flow_network.specs.Marks.{is_marked}
use Rattle.conditions.specs.Cut.{HasFacesIn, IsLeftOut}
use Rattle.flow_network.specs.FaceNet.{vertex_has_to_turn}
use Rattle.std.specs.Prelude.{pos, ◌<ℤ◌}
use Rattle.conditions.proofs.cuts.vertex_marks.Given as goal

abbrev pub invariant-loop-place : goal.invariant-loop-place
invariant-loop-place l = record {
  size : length l.marks.items ≡ l.place;
  some : (k : ℕ) → k < l.place → is_marked l.marks.items k ≡ true → pos 0 <ℤ vertex_has_to_turn l.plane l.given (k + 1);
  inside : (k : ℕ) → k < l.place → is_marked l.marks.items k ≡ true → HasFacesIn l.plane l.given l.faces (k + 1);
  outside : (k : ℕ) → k < l.place → is_marked l.marks.items k ≡ false → IsLeftOut l.plane l.given l.faces (k + 1);
}
