use Rattle.std.proofs.Common.{◌≡◌, ◌+◌, ◌-◌, ◌<◌, ℕ, List, length, length-set, get_or, set, arith, sym, ap, subst, ◌∙◌}
use Rattle.min_cost_flow.specs.declared.network.Arc.{Arc}
use Rattle.min_cost_flow.specs.Networks.{no_arc}
use Rattle.embedding.specs.Darts.{head_of, reverse_of, dart_count}
use Rattle.faces.specs.Planes.{darts, vertices, head, reverse_dart, face_at}
use Rattle.flow_network.specs.Given.{angle_given, turns_given}
use Rattle.flow_network.specs.FaceNet.{corner_cap, crossing_cap}
use Rattle.flow_network.proofs.WrittenLists.{first_written, second_written, arc_alike}
use Rattle.flow_network.proofs.plane_network.write_arcs.Goals as goal

pub write-preserved : goal.write-preserved
write-preserved c =
    let p = c.args.plane.now in
    let xs = c.write.arcs in
    let n = c.from-count.result in
    let j = c.from-place.result in
    let graph = c.graph-graph.ensures.value in
    let place : j ≡ c.write.dart = c.from-place.ensures in
    let all : n ≡ darts p = c.from-count.ensures ∙ c.darts.ensures.count ∙ ap dart_count graph in
    let last : c.darts-dart-end.result ≡ darts p = c.darts-dart-end.ensures.count ∙ ap dart_count graph in
    let inside : j < n = omega (arith, place, all, last, c.write-test.true) in
    let long : length xs ≡ n + n = omega (arith, c.write.invariant.size, all) in
    let first : c.from-first_face.result ≡ vertices p = c.from-first_face.ensures ∙ c.vertices.ensures.count ∙ ap (length {A = List ℕ}) graph in
    let vertex : c.from-vertex.result - 1 ≡ head p c.write.dart - 1 = ap (λ (k : ℕ). k - 1) (c.from-vertex.ensures ∙ c.head.ensures.value ∙ ap (λ (g : List (List ℕ)). head_of g c.write.dart) graph) in
    let face : c.from-first_face.result + c.from.result ≡ vertices p + face_at p c.write.dart = omega (arith, first, c.from.ensures, c.face_of.ensures.value) in
    let back : face_at p c.reverse.result ≡ face_at p (reverse_dart p c.write.dart) = ap (λ (d : ℕ). face_at p d) (c.reverse.ensures.value ∙ ap (λ (g : List (List ℕ)). reverse_of g c.write.dart) graph) in
    let across : c.from-first_face.result + c.from-in-write.result ≡ vertices p + face_at p (reverse_dart p c.write.dart) = omega (arith, first, c.from-in-write.ensures, c.face_of-in-write.ensures.value, back) in
    let corner : ℕ → Arc = λ d. record { from = head p d - 1; to = vertices p + face_at p d; cap = corner_cap (angle_given c.args.given.now d); cost = 0 } in
    let crossing : ℕ → Arc = λ d. record { from = vertices p + face_at p d; to = vertices p + face_at p (reverse_dart p d); cap = crossing_cap (turns_given p c.args.given.now d); cost = 1 } in
    let x : Arc = record { from = c.from-vertex.result - 1; to = c.from-first_face.result + c.from.result; cap = c.corner_cap-corner_cap.result; cost = 0 } in
    let y : Arc = record { from = c.from-first_face.result + c.from.result; to = c.from-first_face.result + c.from-in-write.result; cap = c.crossing_cap-crossing_cap.result; cost = 1 } in
    let x_is : x ≡ corner j = arc_alike _ _ _ _ _ _ 0 vertex face c.corner_cap-corner_cap.ensures ∙ ap corner (sym place) in
    let y_is : y ≡ crossing j = arc_alike _ _ _ _ _ _ 1 face across c.crossing_cap-crossing_cap.ensures ∙ ap crossing (sym place) in
    record {
      size = omega (arith, long, all, length-set {A = Arc});
      corner = λ d l. first_written xs n j x y no_arc corner inside long x_is (λ k m. c.write.invariant.corner k (omega (arith, place, m))) d (omega (arith, place, l));
      crossing = λ d l.
          let before : (k : ℕ) → k < j → get_or xs (n + k) no_arc ≡ crossing k = λ k m. subst (λ (i : ℕ). get_or xs (i + k) no_arc ≡ crossing k) (sym all) (c.write.invariant.crossing k (omega (arith, place, m))) in
          subst (λ (i : ℕ). get_or (set (set xs j x) (n + j) y) (i + d) no_arc ≡ crossing d) all
          (second_written xs n j x y no_arc crossing inside long y_is before d (omega (arith, place, l)));
    }

pub returns-clause-corner : goal.returns-clause-corner
returns-clause-corner c d l =
    let last : c.darts-dart-end.result ≡ darts c.args.plane.now = c.darts-dart-end.ensures.count ∙ ap dart_count c.graph-graph.ensures.value in
    c.write.invariant.corner d (omega (arith, last, c.write-test.false, l))

pub returns-clause-crossing : goal.returns-clause-crossing
returns-clause-crossing c d l =
    let last : c.darts-dart-end.result ≡ darts c.args.plane.now = c.darts-dart-end.ensures.count ∙ ap dart_count c.graph-graph.ensures.value in
    c.write.invariant.crossing d (omega (arith, last, c.write-test.false, l))
