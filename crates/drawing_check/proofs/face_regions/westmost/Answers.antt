use Rattle.std.proofs.Common.{◌≡◌, true, false, arith, sym, ap, ◌∙◌, Option}
use Rattle.std.proofs.lemmas.Bool.{lt-ltb, le-ltb}
use Rattle.faces.specs.Planes.{reverse_dart}
use Rattle.ortho_rep.specs.Edges.{is_lesser}
use Rattle.ortho_rep.proofs.EdgeNumbers.{edge_number-le}
use Rattle.drawing_check.proofs.Leaving.{number_of_lesser, number_of_greater}
use Rattle.drawing_check.specs.declared.face_regions.Upright.{Upright}
use Rattle.drawing_check.specs.Westmost.{west_with_edge}
use Rattle.drawing_check.proofs.WestParts.{westmost_more, westmost_kept}
use Rattle.drawing_check.proofs.face_regions.westmost.Goals as goal
use Rattle.drawing_check.proofs.face_regions.westmost.Goals.{then-dart-reverse, else-dart-reverse}

pub overflow_add-edge : goal.overflow_add-edge
overflow_add-edge c = omega (arith, edge_number-le c.args.plane.now c.loop-dart.dart, c.loop-dart.invariant.number, c.graph-graph.ensures.ends.few_darts)

pub loop-dart-preserved : goal.loop-dart-preserved
loop-dart-preserved c =
    let p = c.args.plane.now in
    let points = c.args.points.now in
    let dart = c.loop-dart.dart in
    let before = c.loop-dart.invariant in
    let reverse_dart_is : c.reverse-reverse.result ≡ reverse_dart p dart = rw c.graph-graph.ensures.value at c.reverse-reverse.ensures.value in
    elim c.if-dart-reverse.branch [
      | then-dart-reverse w ↦
          let lesser : is_lesser p dart ≡ true = lt-ltb dart (reverse_dart p dart) (omega (arith, reverse_dart_is, w.if-dart-reverse.true)) in
          record {
            number = omega (arith, w.edge-is, number_of_lesser p dart lesser, before.number);
            so_far = w.west-is ∙ w.west_with_edge-west.ensures ∙ ap (λ (o : Option Upright). west_with_edge p points o dart) before.so_far ∙ sym (westmost_more p points dart lesser);
          }
      | else-dart-reverse w ↦
          let greater : is_lesser p dart ≡ false = le-ltb dart (reverse_dart p dart) (omega (arith, reverse_dart_is, w.if-dart-reverse.false)) in
          record {
            number = omega (arith, w.edge-is, number_of_greater p dart greater, before.number);
            so_far = w.west-is ∙ before.so_far ∙ sym (westmost_kept p points dart greater);
          }
    ]
