use Rattle.std.proofs.Common.{◌≡◌, ◌<◌, ℕ, List, true, false, sym, subst, arith}
use Rattle.std.proofs.lemmas.Bool.{both_ways, lt-ltb, le-ltb}
use Rattle.std.proofs.lemmas.Result.{err_from_is_err_and}
use Rattle.faces.specs.Planes.{darts, reverse_dart}
use Rattle.ortho_rep.specs.declared.grid_points.Point.{Point}
use Rattle.ortho_rep.specs.Edges.{is_lesser}
use Rattle.ortho_rep.proofs.EdgeNumbers.{edge_number-le}
use Rattle.drawing_check.specs.Paths.{path_along}
use Rattle.drawing_check.specs.Draws.{IsOnAxes}
use Rattle.drawing_check.proofs.Leaving.{number_of_lesser, number_of_greater}
use Rattle.drawing_check.proofs.Routing.{each_more, axes_each}
use Rattle.referee.specs.Faults.{IsAxisFault, IsFirstFailure}
use Rattle.drawing_check.specs.Draws.{AreInGrid}
use Rattle.referee.specs.declared.judge.Fault.{Fault}
use Rattle.referee.proofs.FirstFaults.{first_slanted}
use Rattle.referee.proofs.conditions.check_axes.Goals as goal
use Rattle.referee.proofs.conditions.check_axes.Goals.{then-dart-reverse+in_ok-check_route, else-dart-reverse}

pub overflow_add-edge : goal.overflow_add-edge
overflow_add-edge c = omega (arith, edge_number-le c.args.plane.now c.loop-dart.dart, c.loop-dart.invariant.number, c.graph-graph.ensures.ends.few_darts)

pub loop-dart-preserved : goal.loop-dart-preserved
loop-dart-preserved c =
    let p = c.args.plane.now in
    let points = c.args.points.now in
    let dart = c.loop-dart.dart in
    let straight : ℕ → Type 0 = λ d. IsOnAxes (path_along p points d) in
    let so_far = c.loop-dart.invariant in
    let reverse_dart_is : c.reverse-reverse.result ≡ reverse_dart p dart = rw c.graph-graph.ensures.value at c.reverse-reverse.ensures.value in
    let count : c.darts-dart-end.result ≡ darts p = rw c.graph-graph.ensures.value at c.darts-dart-end.ensures.count in
    let inside : dart < darts p = omega (arith, count) in
    elim c.if-dart-reverse.branch [
      | then-dart-reverse+in_ok-check_route w ↦
          let lesser : is_lesser p dart ≡ true = lt-ltb dart (reverse_dart p dart) (omega (arith, reverse_dart_is, w.if-dart-reverse.true)) in
          record {
            number = omega (arith, w.edge-is, number_of_lesser p dart lesser, so_far.number);
            on_axes = each_more straight p dart so_far.on_axes (λ _. subst IsOnAxes w.route_of-route.ensures.path w.in_ok-check_route.ensures.on_axes);
          }
      | else-dart-reverse w ↦
          let greater : is_lesser p dart ≡ false = le-ltb dart (reverse_dart p dart) (omega (arith, reverse_dart_is, w.if-dart-reverse.false)) in
          record {
            number = omega (arith, w.edge-is, number_of_greater p dart greater, so_far.number);
            on_axes = each_more straight p dart so_far.on_axes (λ less. absurd (both_ways (is_lesser p dart) greater less));
          }
    ]

pub returns-clause-on_axes : goal.returns-clause-on_axes
returns-clause-on_axes c =
    let p = c.args.plane.now in
    let count : c.darts-dart-end.result ≡ darts p = rw c.graph-graph.ensures.value at c.darts-dart-end.ensures.count in
    (axes_each p c.args.points.now).1 (λ d lt less. c.loop-dart.invariant.on_axes d (omega (arith, count)) less)

pub returns-in_err-check_route-clause-refused : goal.returns-in_err-check_route-clause-refused
returns-in_err-check_route-clause-refused c =
    let p = c.args.plane.now in
    let points = c.args.points.now in
    let dart = c.loop-dart.dart in
    let reverse_dart_is : c.reverse-reverse.result ≡ reverse_dart p dart = rw c.graph-graph.ensures.value at c.reverse-reverse.ensures.value in
    let count : c.darts-dart-end.result ≡ darts p = rw c.graph-graph.ensures.value at c.darts-dart-end.ensures.count in
    let inside : dart < darts p = omega (arith, count) in
    let lesser : is_lesser p dart ≡ true = lt-ltb dart (reverse_dart p dart) (omega (arith, reverse_dart_is, c.if-dart-reverse.true)) in
    let q = err_from_is_err_and c.from_residual.result c.from_residual.ensures.1 in
    rw q.1 (λ all. c.in_err-check_route.ensures.refused
    (subst IsOnAxes (sym c.route_of-route.ensures.path) ((axes_each p points).0 all dart inside lesser)))

pub returns-in_err-check_route-clause-first : goal.returns-in_err-check_route-clause-first
returns-in_err-check_route-clause-first c =
    let p = c.args.plane.now in
    let points = c.args.points.now in
    let dart = c.loop-dart.dart in
    let reverse_dart_is : c.reverse-reverse.result ≡ reverse_dart p dart = rw c.graph-graph.ensures.value at c.reverse-reverse.ensures.value in
    let count : c.darts-dart-end.result ≡ darts p = rw c.graph-graph.ensures.value at c.darts-dart-end.ensures.count in
    let inside : dart < darts p = omega (arith, count) in
    let lesser : is_lesser p dart ≡ true = lt-ltb dart (reverse_dart p dart) (omega (arith, reverse_dart_is, c.if-dart-reverse.true)) in
    let here = subst (λ (path : List Point). IsAxisFault path c.loop-dart.edge c.in_err-check_route.field-0.0) c.route_of-route.ensures.path c.in_err-check_route.ensures.first in
    let q = err_from_is_err_and c.from_residual.result c.from_residual.ensures.1 in
    rw q.1 (subst (λ (fault : Fault). AreInGrid points → IsFirstFailure p points fault) (sym q.2)
    (first_slanted p points dart inside c.loop-dart.edge _ c.loop-dart.invariant.number lesser c.requires c.loop-dart.invariant.on_axes here))
