use Rattle.std.proofs.Common.{ℕ, subst, sym}
use Rattle.min_cost_flow.specs.Networks.{NetworkModel}
use Rattle.min_cost_flow.specs.Flow.{Flow}
use Rattle.flow_network.specs.Given.{GivenModel}
use Rattle.flow_network.specs.FaceNet.{IsFaceNet, IsKeepingNet}
use Rattle.flow_network.proofs.Flowing.{net_flows}
use Rattle.flow_network.proofs.Faultless.{net_sound, arc_ends}
use Rattle.flow_network.proofs.plane_network.FaceNet.build_keeping_in.Goals as goal

pub of_lists-requires : goal.of_lists-requires
of_lists-requires c =
    let net : NetworkModel = record { supplies = c.in_ok-supplies.supplies.items; arcs = c.in_ok-arcs.arcs.items } in
    let is : IsKeepingNet c.args.plane.now c.args.given.now net = record {
      nodes = c.in_ok-supplies.ensures.nodes;
      arcs = c.in_ok-arcs.ensures.arcs;
      corner = c.in_ok-arcs.ensures.corner;
      crossing = c.in_ok-arcs.ensures.crossing;
      at_vertex = c.in_ok-supplies.ensures.at_vertex;
      at_face = c.in_ok-supplies.ensures.at_face;
    } in
    net_sound c.args.plane.now net c.graph.ensures.plane c.is_nothing-is_nothing.ensures.can is

pub returns-clause-flow : goal.returns-clause-flow
returns-clause-flow c none =
    let p = c.args.plane.now in
    let net : NetworkModel = record { supplies = c.in_ok-supplies.supplies.items; arcs = c.in_ok-arcs.arcs.items } in
    let keeping : IsKeepingNet p c.args.given.now net = record {
      nodes = c.in_ok-supplies.ensures.nodes;
      arcs = c.in_ok-arcs.ensures.arcs;
      corner = c.in_ok-arcs.ensures.corner;
      crossing = c.in_ok-arcs.ensures.crossing;
      at_vertex = c.in_ok-supplies.ensures.at_vertex;
      at_face = c.in_ok-supplies.ensures.at_face;
    } in
    let is : IsFaceNet p net = subst (λ (given : GivenModel). IsKeepingNet p given net) none keeping in
    subst (λ (n : NetworkModel). (y : ℕ → ℕ) × Flow n y) (sym c.of_lists.ensures) (net_flows p net c.graph.ensures.plane is (arc_ends p net c.graph.ensures.plane is))
