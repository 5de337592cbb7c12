use Rattle.std.proofs.Common.{◌≡◌, ◌+◌, ◌<◌, ◌==◌, if◌then◌else◌, ℕ, length, get_or}
use Rattle.std.specs.Prelude.{pos, negsuc, ◌-ℤ◌}
use Rattle.faces.specs.Planes.{vertices, degree}
use Rattle.flow_network.specs.FaceNet.{vertex_degree}
use Rattle.flow_network.proofs.plane_network.supplies_of_plane.Given as goal

abbrev pub invariant-vertices : goal.invariant-vertices
invariant-vertices l = record {
  size : length l.supplies.items ≡ l.place;
  at : (k : ℕ) → k < l.place → get_or l.supplies.items k (pos 0) ≡ pos 4 -ℤ pos (vertex_degree l.plane (k + 1));
}

abbrev pub invariant-faces : goal.invariant-faces
invariant-faces l = record {
  size : length l.supplies.items ≡ vertices l.plane + l.face;
  at_vertex : (k : ℕ) → k < vertices l.plane → get_or l.supplies.items k (pos 0) ≡ pos 4 -ℤ pos (vertex_degree l.plane (k + 1));
  at_face : (f : ℕ) → f < l.face → get_or l.supplies.items (vertices l.plane + f) (pos 0) ≡ (if f == l.plane.outer then negsuc 3 else pos 4) -ℤ pos (degree l.plane f);
}
