use Rattle.std.proofs.Common.{◌≡◌, ◌+◌, ◌*◌, ◌==◌, if◌then◌else◌}
use Rattle.std.specs.Prelude.{pos, ◌-ℤ◌, ◌≤ℤ◌}
use Rattle.common.specs.Sums.{sum_below}
use Rattle.faces.specs.Planes.{head}
use Rattle.flow_network.specs.Given.{angle_given, beyond_first}
use Rattle.flow_network.specs.FaceNet.{vertex_degree}
use Rattle.flow_network.proofs.plane_network.vertex_supply.Given as goal

abbrev pub invariant-loop-dart : goal.invariant-loop-dart
invariant-loop-dart l = record {
  sum : l.units ≡ pos 4 -ℤ pos (vertex_degree l.plane l.vertex) -ℤ pos (sum_below l.dart (λ d. if head l.plane d == l.vertex then beyond_first (angle_given l.given d) else 0));
  low : (pos 0 -ℤ pos (251 + 3 * l.dart)) ≤ℤ l.units;
}
