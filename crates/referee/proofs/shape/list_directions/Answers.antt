use Rattle.std.proofs.Common.{◌≡◌, ◌<◌, ◌∙◌, ℕ, true, false, subst, arith}
use Rattle.std.proofs.lemmas.Bool.{lt-ltb, le-ltb}
use Rattle.faces.specs.Planes.{darts, reverse_dart}
use Rattle.ortho_rep.specs.Edges.{is_lesser}
use Rattle.ortho_rep.proofs.EdgeNumbers.{edge_number-le}
use Rattle.drawing_check.proofs.Leaving.{number_of_lesser, number_of_greater, leaving_more, leaving_kept, all_leave}
use Rattle.referee.proofs.Leaving.{leaves_out, leaves_back}
use Rattle.referee.proofs.shape.list_directions.Goals as goal
use Rattle.referee.proofs.shape.list_directions.Goals.{then-dart-reverse, else-dart-reverse}

pub overflow_add-edge : goal.overflow_add-edge
overflow_add-edge c = omega (arith, edge_number-le c.args.plane.now c.loop-dart.dart, c.loop-dart.invariant.number, c.graph-graph.ensures.ends.few_darts)

pub loop-dart-preserved : goal.loop-dart-preserved
loop-dart-preserved c =
    let p = c.args.plane.now in
    let points = c.args.points.now in
    let dart = c.loop-dart.dart in
    let ends = c.graph-graph.ensures.ends in
    let so_far = c.loop-dart.invariant in
    let reverse_dart_is : c.reverse-reverse.result ≡ reverse_dart p dart = rw c.graph-graph.ensures.value at c.reverse-reverse.ensures.value in
    let count : c.darts-dart-end.result ≡ darts p = rw c.graph-graph.ensures.value at c.darts-dart-end.ensures.count in
    let inside : dart < darts p = omega (arith, count) in
    elim c.if-dart-reverse.branch [
      | then-dart-reverse w ↦
          let lesser : is_lesser p dart ≡ true = lt-ltb dart (reverse_dart p dart) (omega (arith, reverse_dart_is, w.if-dart-reverse.true)) in
          let route = w.route_of-route in
          record {
            number = omega (arith, w.edge-is, number_of_lesser p dart lesser, so_far.number);
            leaving =
                leaving_more p points c.loop-dart.directions c.if-dart-reverse.directions dart w.from.result w.from-then-dart-reverse.result w.direction_from.result w.direction_from-then-dart-reverse.result ends so_far.leaving inside
                w.from.ensures (w.from-then-dart-reverse.ensures ∙ reverse_dart_is) w.directions-is
                (leaves_out p points dart route.result w.point_at.result w.direction_from.result lesser route.ensures.path w.point_at.ensures w.direction_from.ensures)
                (leaves_back p points dart route.result w.point_at-then-dart-reverse.result w.direction_from-then-dart-reverse.result ends inside lesser route.ensures.path w.point_at-then-dart-reverse.ensures w.direction_from-then-dart-reverse.ensures);
          }
      | else-dart-reverse w ↦
          let greater : is_lesser p dart ≡ false = le-ltb dart (reverse_dart p dart) (omega (arith, reverse_dart_is, w.if-dart-reverse.false)) in
          record {
            number = omega (arith, w.edge-is, number_of_greater p dart greater, so_far.number);
            leaving = rw w.directions-is (leaving_kept p points c.loop-dart.directions dart so_far.leaving greater);
          }
    ]

pub returns : goal.returns
returns c =
    let p = c.args.plane.now in
    let points = c.args.points.now in
    let done = c.loop-dart.invariant in
    let count : c.darts-dart-end.result ≡ darts p = rw c.graph-graph.ensures.value at c.darts-dart-end.ensures.count in
    record {
      room = done.leaving.room;
      leaving = all_leave p points c.loop-dart.directions c.loop-dart.dart c.graph-graph.ensures.ends done.leaving (omega (arith, count));
    }
