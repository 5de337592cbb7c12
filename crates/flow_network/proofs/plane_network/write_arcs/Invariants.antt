use Rattle.std.proofs.Common.{◌≡◌, ◌+◌, ◌-◌, ◌<◌, ℕ, length, get_or}
use Rattle.faces.specs.Planes.{darts, vertices, head, reverse_dart, face_at}
use Rattle.min_cost_flow.specs.Networks.{no_arc}
use Rattle.flow_network.specs.Given.{angle_given, turns_given}
use Rattle.flow_network.specs.FaceNet.{corner_cap, crossing_cap}
use Rattle.flow_network.proofs.plane_network.write_arcs.Given as goal

abbrev pub invariant-write : goal.invariant-write
invariant-write l = record {
  size : length l.arcs ≡ darts l.plane + darts l.plane;
  corner : (d : ℕ) → d < l.dart → get_or l.arcs d no_arc ≡ record { from = head l.plane d - 1; to = vertices l.plane + face_at l.plane d; cap = corner_cap (angle_given l.given d); cost = 0 };
  crossing : (d : ℕ) → d < l.dart → get_or l.arcs (darts l.plane + d) no_arc ≡ record { from = vertices l.plane + face_at l.plane d; to = vertices l.plane + face_at l.plane (reverse_dart l.plane d); cap = crossing_cap (turns_given l.plane l.given d); cost = 1 };
}
