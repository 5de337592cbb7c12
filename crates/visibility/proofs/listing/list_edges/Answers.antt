use Rattle.std.proofs.Common.{◌≡◌, ◌∙◌, length, arith}
use Rattle.faces.specs.Planes.{darts, reverse_dart}
use Rattle.ortho_rep.proofs.EdgeNumbers.{edge_number-le}
use Rattle.visibility.proofs.Edges.{number_below, number_more, number_kept}
use Rattle.visibility.proofs.listing.list_edges.Goals as goal
use Rattle.visibility.proofs.listing.list_edges.Goals.{then-dart-reverse+in_ok-list_edge, else-dart-reverse}

pub overflow_add-edge : goal.overflow_add-edge
overflow_add-edge c = omega (arith, edge_number-le c.args.plane.now c.loop-dart.dart, c.loop-dart.invariant.number, c.graph-graph.ensures.ends.few_darts)

pub list_edge-requires-clause-edge : goal.list_edge-requires-clause-edge
list_edge-requires-clause-edge c =
    let p = c.args.plane.now in
    let dart = c.loop-dart.dart in
    let reverse_is : c.reverse-reverse.result ≡ reverse_dart p dart = rw c.graph-graph.ensures.value at c.reverse-reverse.ensures.value in
    let count : c.darts-dart-end.result ≡ darts p = rw c.graph-graph.ensures.value at c.darts-dart-end.ensures.count in
    omega (arith, number_below p dart (length c.args.points.now.corners) c.graph-graph.ensures.ends c.requires.points.edge_count (omega (arith, count)) (omega (arith, reverse_is, c.if-dart-reverse.true)), c.loop-dart.invariant.number)

pub loop-dart-preserved : goal.loop-dart-preserved
loop-dart-preserved c =
    let p = c.args.plane.now in
    let dart = c.loop-dart.dart in
    let reverse_is : c.reverse-reverse.result ≡ reverse_dart p dart = rw c.graph-graph.ensures.value at c.reverse-reverse.ensures.value in
    elim c.if-dart-reverse.branch [
      | then-dart-reverse+in_ok-list_edge w ↦ record {
        x = rw w.lists-is (w.list_edge.ensures.x ∙ c.loop-dart.invariant.x);
        y = rw w.lists-is (w.list_edge.ensures.y ∙ c.loop-dart.invariant.y);
        x_of = rw w.lists-is (w.list_edge.ensures.x_of ∙ c.loop-dart.invariant.x_of);
        y_of = rw w.lists-is (w.list_edge.ensures.y_of ∙ c.loop-dart.invariant.y_of);
        x_edges = rw w.lists-is (w.list_edge.ensures.x_edges ∙ c.loop-dart.invariant.x_edges);
        y_edges = rw w.lists-is (w.list_edge.ensures.y_edges ∙ c.loop-dart.invariant.y_edges);
        number = omega (arith, w.edge-is, number_more p dart c.loop-dart.edge c.loop-dart.invariant.number (omega (arith, reverse_is, w.if-dart-reverse.true)));
        bent = rw w.lists-is w.in_ok-list_edge.ensures.bent;
      }
      | else-dart-reverse w ↦ record {
        x = rw w.lists-is c.loop-dart.invariant.x;
        y = rw w.lists-is c.loop-dart.invariant.y;
        x_of = rw w.lists-is c.loop-dart.invariant.x_of;
        y_of = rw w.lists-is c.loop-dart.invariant.y_of;
        x_edges = rw w.lists-is c.loop-dart.invariant.x_edges;
        y_edges = rw w.lists-is c.loop-dart.invariant.y_edges;
        number = omega (arith, w.edge-is, number_kept p dart c.loop-dart.edge c.loop-dart.invariant.number (omega (arith, reverse_is, w.if-dart-reverse.false)));
        bent = rw w.lists-is c.loop-dart.invariant.bent;
      }
    ]
