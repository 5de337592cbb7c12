use Rattle.std.proofs.Common.{◌≡◌, ◌+◌, ◌<◌, ℕ, length}
use Rattle.faces.specs.Planes.{vertices}
use Rattle.flow_network.specs.Marks.{is_marked}
use Rattle.min_cost_flow.specs.Overfull.{is_in}
use Rattle.conditions.proofs.cuts.face_marks.Given as goal

abbrev pub invariant-loop-face : goal.invariant-loop-face
invariant-loop-face l = record {
  size : length l.faces.items ≡ l.face;
  each : (f : ℕ) → f < l.face → is_marked l.faces.items f ≡ is_in l.nodes (vertices l.plane + f);
}
