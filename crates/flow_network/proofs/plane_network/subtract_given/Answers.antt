use Rattle.std.proofs.Common.{◌≡◌, ◌≢◌, ◌+◌, ◌-◌, ◌<◌, ◌≤◌, ℕ, List, length, arith, ap, sym, subst, ◌∙◌}
use Rattle.std.specs.Prelude.{ℤ, pos, nat_abs}
use Rattle.embedding.specs.Darts.{head_of, dart_count}
use Rattle.faces.specs.Planes.{darts, vertices, head, face_at}
use Rattle.faces.proofs.Ends.{plane_ends}
use Rattle.flow_network.specs.declared.given_shape.TheConstants.{MAX_GIVEN_TURNS}
use Rattle.flow_network.specs.Given.{angle_given, turns_given, beyond_first, lefts_given}
use Rattle.flow_network.proofs.GivenParts.{beyond_first_few, turns_few}
use Rattle.flow_network.proofs.Taken.{AreTaken, ArePlain, taken_near, taken_next, taken_vertex, taken_face, difference_fits, difference_is, gain_fits, sum_fits, sum_is, written_near}
use Rattle.flow_network.proofs.plane_network.subtract_given.Goals as goal

pub overflow_sub-supplies : goal.overflow_sub-supplies
overflow_sub-supplies c =
    let p = c.args.plane.now in
    let given = c.args.given.now in
    let d = c.take.dart in
    let graph = c.graph-graph.ensures.value in
    let plane = c.graph-graph.ensures.plane in
    let ends = plane_ends p plane in
    let last : c.darts-dart-end.result ≡ darts p = c.darts-dart-end.ensures.count ∙ ap dart_count graph in
    let inside : d < darts p = omega (arith, last, c.take-test.true) in
    let vertex : c.from-vertex.result ≡ head p d = c.from-vertex.ensures ∙ c.head.ensures.value ∙ ap (λ (g : List (List ℕ)). head_of g d) graph in
    let within : c.from-vertex.result - 1 < length c.take.supplies = omega (arith, vertex, ends.head_from d inside, ends.head_to d inside, c.take.invariant.size, c.requires.nodes) in
    let plain : ArePlain p c.args.supplies.now = record { nodes = c.requires.nodes; at_vertex = c.requires.at_vertex; at_face = c.requires.at_face } in
    difference_fits _ _ (beyond_first (angle_given given d)) (taken_near p given _ _ d plane c.requires.can plain c.take.invariant (omega (arith, inside, ends.few_darts)) _ within)
    (c.beyond-angle.ensures ∙ ap (λ (k : ℕ). pos k) (ap beyond_first c.angle.ensures.value)) (beyond_first_few given c.requires.can d)

pub overflow_sub-supplies-in-take : goal.overflow_sub-supplies-in-take
overflow_sub-supplies-in-take c =
    let p = c.args.plane.now in
    let given = c.args.given.now in
    let d = c.take.dart in
    let turns : c.lefts.result ≡ lefts_given (turns_given p given d) = c.lefts.ensures ∙ ap lefts_given c.turns.ensures.value in
    gain_fits _ c.lefts.result (beyond_first (angle_given given d)) (c.beyond-angle.ensures ∙ ap (λ (k : ℕ). pos k) (ap beyond_first c.angle.ensures.value)) (beyond_first_few given c.requires.can d)
    (subst (λ (t : ℤ). nat_abs t ≤ MAX_GIVEN_TURNS) (sym turns) (turns_few p given c.requires.can d))

pub overflow_add-supplies : goal.overflow_add-supplies
overflow_add-supplies c =
    let p = c.args.plane.now in
    let given = c.args.given.now in
    let d = c.take.dart in
    let graph = c.graph-graph.ensures.value in
    let plane = c.graph-graph.ensures.plane in
    let ends = plane_ends p plane in
    let last : c.darts-dart-end.result ≡ darts p = c.darts-dart-end.ensures.count ∙ ap dart_count graph in
    let inside : d < darts p = omega (arith, last, c.take-test.true) in
    let vertex : c.from-vertex.result ≡ head p d = c.from-vertex.ensures ∙ c.head.ensures.value ∙ ap (λ (g : List (List ℕ)). head_of g d) graph in
    let first : c.from-first_face.result ≡ vertices p = c.from-first_face.ensures ∙ c.vertices.ensures.count ∙ ap (length {A = List ℕ}) graph in
    let face : c.from-first_face.result + c.from.result ≡ vertices p + face_at p d = omega (arith, first, c.from.ensures, c.face_of.ensures.value) in
    let within : c.from-first_face.result + c.from.result < length c.take.supplies = omega (arith, face, ends.face_named d inside, c.take.invariant.size, c.requires.nodes) in
    let apart : c.from-vertex.result - 1 ≢ c.from-first_face.result + c.from.result = λ e. omega (arith, e, face, vertex, ends.head_from d inside, ends.head_to d inside) in
    let plain : ArePlain p c.args.supplies.now = record { nodes = c.requires.nodes; at_vertex = c.requires.at_vertex; at_face = c.requires.at_face } in
    let turns : c.lefts.result ≡ lefts_given (turns_given p given d) = c.lefts.ensures ∙ ap lefts_given c.turns.ensures.value in
    sum_fits _ _ c.lefts.result (beyond_first (angle_given given d))
    (written_near c.take.supplies _ _ _ apart (taken_near p given _ _ d plane c.requires.can plain c.take.invariant (omega (arith, inside, ends.few_darts)) _ within))
    (c.beyond-angle.ensures ∙ ap (λ (k : ℕ). pos k) (ap beyond_first c.angle.ensures.value)) (beyond_first_few given c.requires.can d)
    (subst (λ (t : ℤ). nat_abs t ≤ MAX_GIVEN_TURNS) (sym turns) (turns_few p given c.requires.can d))

pub take-preserved : goal.take-preserved
take-preserved c =
    let p = c.args.plane.now in
    let given = c.args.given.now in
    let d = c.take.dart in
    let xs = c.take.supplies in
    let graph = c.graph-graph.ensures.value in
    let plane = c.graph-graph.ensures.plane in
    let ends = plane_ends p plane in
    let last : c.darts-dart-end.result ≡ darts p = c.darts-dart-end.ensures.count ∙ ap dart_count graph in
    let inside : d < darts p = omega (arith, last, c.take-test.true) in
    let vertex : c.from-vertex.result ≡ head p d = c.from-vertex.ensures ∙ c.head.ensures.value ∙ ap (λ (g : List (List ℕ)). head_of g d) graph in
    let first : c.from-first_face.result ≡ vertices p = c.from-first_face.ensures ∙ c.vertices.ensures.count ∙ ap (length {A = List ℕ}) graph in
    let face : c.from-first_face.result + c.from.result ≡ vertices p + face_at p d = omega (arith, first, c.from.ensures, c.face_of.ensures.value) in
    let v_in : c.from-vertex.result - 1 < length xs = omega (arith, vertex, ends.head_from d inside, ends.head_to d inside, c.take.invariant.size, c.requires.nodes) in
    let f_in : c.from-first_face.result + c.from.result < length xs = omega (arith, face, ends.face_named d inside, c.take.invariant.size, c.requires.nodes) in
    let apart : c.from-vertex.result - 1 ≢ c.from-first_face.result + c.from.result = λ e. omega (arith, e, face, vertex, ends.head_from d inside, ends.head_to d inside) in
    let plain : ArePlain p c.args.supplies.now = record { nodes = c.requires.nodes; at_vertex = c.requires.at_vertex; at_face = c.requires.at_face } in
    let near = taken_near p given _ xs d plane c.requires.can plain c.take.invariant (omega (arith, inside, ends.few_darts)) in
    let angle : c.beyond-angle.result ≡ pos (beyond_first (angle_given given d)) = c.beyond-angle.ensures ∙ ap (λ (k : ℕ). pos k) (ap beyond_first c.angle.ensures.value) in
    let turns : c.lefts.result ≡ lefts_given (turns_given p given d) = c.lefts.ensures ∙ ap lefts_given c.turns.ensures.value in
    let few = beyond_first_few given c.requires.can d in
    taken_next p given _ xs d _ _ _ _ c.take.invariant v_in f_in (ap (λ (k : ℕ). k - 1) vertex) face
    (difference_is _ _ (beyond_first (angle_given given d)) (near _ v_in) angle few)
    (sum_is _ _ _ _ (beyond_first (angle_given given d)) (written_near xs _ _ _ apart (near _ f_in)) angle few turns (turns_few p given c.requires.can d))

pub returns-clause-at_vertex : goal.returns-clause-at_vertex
returns-clause-at_vertex c =
    let p = c.args.plane.now in
    let plane = c.graph-graph.ensures.plane in
    let all : c.take.dart ≡ darts p = omega (arith, ap dart_count c.graph-graph.ensures.value, c.take-test.false) in
    let plain : ArePlain p c.args.supplies.now = record { nodes = c.requires.nodes; at_vertex = c.requires.at_vertex; at_face = c.requires.at_face } in
    taken_vertex p c.args.given.now c.args.supplies.now c.take.supplies (plane_ends p plane) plain
    (subst (λ (n : ℕ). AreTaken p c.args.given.now c.args.supplies.now c.take.supplies n) all c.take.invariant)

pub returns-clause-at_face : goal.returns-clause-at_face
returns-clause-at_face c =
    let p = c.args.plane.now in
    let plane = c.graph-graph.ensures.plane in
    let all : c.take.dart ≡ darts p = omega (arith, ap dart_count c.graph-graph.ensures.value, c.take-test.false) in
    let plain : ArePlain p c.args.supplies.now = record { nodes = c.requires.nodes; at_vertex = c.requires.at_vertex; at_face = c.requires.at_face } in
    taken_face p c.args.given.now c.args.supplies.now c.take.supplies (plane_ends p plane) plain
    (subst (λ (n : ℕ). AreTaken p c.args.given.now c.args.supplies.now c.take.supplies n) all c.take.invariant)
