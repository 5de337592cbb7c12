use Rattle.std.proofs.Common.{◌≡◌, ◌+◌, ◌∙◌, length, ap, arith}
use Rattle.std.specs.Prelude.{pos}
use Rattle.std.proofs.lemmas.List.{length-map, length-take-le, length-drop, get_or-take, get_or-drop}
use Rattle.faces.specs.Planes.{vertices}
use Rattle.min_cost_flow.specs.Flow.{Solves, amounts, at_nodes}
use Rattle.ortho_rep.specs.Repeats.{turns_in}
use Rattle.ortho_rep.proofs.FromFlow.{IsOfFlow, shape_of_flow, least_of_flow, proof_of_flow}
use Rattle.ortho_rep.proofs.least.shape_in.Goals as goal

pub split_at-requires : goal.split_at-requires
split_at-requires c =
    omega (arith, c.from.ensures, c.vertices-vertices.ensures.count, ap length c.graph.ensures.value, ap length c.potentials.ensures, c.requires.solves.potential_count, c.requires.net.network.nodes)

pub returns : goal.returns
returns c =
    let plane = c.args.plane.now in
    let net = c.args.net.now.network in
    let x = amounts c.args.solved.now.flow in
    let potentials = c.args.solved.now.potential in
    let q = at_nodes potentials in
    let n = vertices plane in
    let is = c.requires.net.network in
    let ends = c.graph.ensures.ends in
    let solves : Solves net c.args.solved.now = c.requires.solves in
    let given = c.args.given.now in
    let can = c.is_nothing-nothing.ensures.can in
    let parts = c.split_at in
    let long : length potentials ≡ n + plane.faces = solves.potential_count ∙ is.nodes in
    let cut : c.from.result ≡ n = c.from.ensures ∙ (c.vertices-vertices.ensures.count ∙ ap length c.graph.ensures.value) in
    let found : IsOfFlow plane given x q c.of_darts-shape.result c.new-prices.result = rw (c.of_darts-shape.ensures, c.new-prices.ensures, c.in_ok-vertex_prices.ensures, c.in_ok-face_prices.ensures, parts.ensures.front, parts.ensures.back, cut, c.potentials.ensures) (record {
      angle_count = length-map c.in_ok-darts.darts.items (λ dart. dart.angle) ∙ c.in_ok-darts.ensures.flow.count;
      string_count = length-map c.in_ok-darts.darts.items turns_in ∙ c.in_ok-darts.ensures.flow.count;
      vertex_count = length-take-le n potentials (omega (arith, long));
      face_count = omega (arith, length-drop n potentials, long);
      angle = c.in_ok-darts.ensures.flow.angle;
      string = c.in_ok-darts.ensures.flow.turns;
      vertex = λ k b. get_or-take n potentials k (pos 0) b;
      face = λ f b. get_or-drop n potentials f (pos 0);
    }) in
    record {
      shape = shape_of_flow plane net x q c.of_darts-shape.result c.new-prices.result ends can is solves.flow found;
      least = least_of_flow plane net x q c.of_darts-shape.result c.new-prices.result ends can is solves.flow solves.potentials found;
      proof = proof_of_flow plane net x q c.of_darts-shape.result c.new-prices.result ends is solves.potentials found;
    }
