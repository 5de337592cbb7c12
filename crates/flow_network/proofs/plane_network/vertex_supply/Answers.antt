use Rattle.std.proofs.Common.{◌≡◌, ◌+◌, ◌==◌, if◌then◌else◌, ℕ, ap, arith, subst}
use Rattle.std.specs.Prelude.{pos, ◌-ℤ◌}
use Rattle.std.proofs.lemmas.Int.{ints}
use mir.Syntax.{w32}
use mir.Val.{to_z}
use Rattle.common.specs.Sums.{sum_below}
use Rattle.common.proofs.Sums.{sum_below-more}
use Rattle.embedding.specs.Darts.{dart_count}
use Rattle.faces.specs.Planes.{darts, head}
use Rattle.flow_network.specs.Given.{angle_given, beyond_first}
use Rattle.flow_network.specs.FaceNet.{vertex_degree}
use Rattle.flow_network.proofs.Taken.{units_fit, units_next}
use Rattle.flow_network.proofs.plane_network.vertex_supply.Goals as goal

pub overflow_sub-units-in-loop-dart : goal.overflow_sub-units-in-loop-dart
overflow_sub-units-in-loop-dart c =
    let p = c.args.plane.now in
    let part : ℕ → ℕ = λ d. if head p d == c.args.vertex then beyond_first (angle_given c.args.given.now d) else 0 in
    units_fit _ _ (vertex_degree p c.args.vertex) (sum_below c.loop-dart.dart part) c.loop-dart.dart c.loop-dart.invariant.sum c.loop-dart.invariant.low (omega (arith, c.darts-dart-end.ensures.few)) (omega (arith, ints, c.beyond_at-units.ensures.value)) c.beyond_at-units.ensures.few

pub loop-dart-preserved : goal.loop-dart-preserved
loop-dart-preserved c =
    let p = c.args.plane.now in
    let part : ℕ → ℕ = λ d. if head p d == c.args.vertex then beyond_first (angle_given c.args.given.now d) else 0 in
    let next = units_next _ _ (vertex_degree p c.args.vertex) (sum_below c.loop-dart.dart part) (sum_below (c.loop-dart.dart + 1) part) (part c.loop-dart.dart) c.loop-dart.dart c.loop-dart.invariant.sum c.loop-dart.invariant.low (omega (arith, c.darts-dart-end.ensures.few)) c.beyond_at-units.ensures.value c.beyond_at-units.ensures.few
    (sum_below-more c.loop-dart.dart part) in
    record { sum = next.0; low = next.1 }

pub returns : goal.returns
returns c =
    let all : c.loop-dart.dart ≡ darts c.args.plane.now = omega (arith, ap dart_count c.graph.ensures.value, c.loop-dart-test.false) in
    subst (λ (n : ℕ). to_z w32 c.loop-dart.units-bits ≡ pos 4 -ℤ pos (vertex_degree c.args.plane.now c.args.vertex) -ℤ pos (sum_below n (λ d. if head c.args.plane.now d == c.args.vertex then beyond_first (angle_given c.args.given.now d) else 0)))
    all c.loop-dart.invariant.sum
