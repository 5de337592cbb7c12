use Rattle.std.proofs.Common.{subst}
use Rattle.min_cost_flow.specs.Networks.{NetworkModel}
use Rattle.min_cost_flow.specs.Flow.{Flow}
use Rattle.min_cost_flow.specs.Existence.{SuppliesSumToZero}
use Rattle.min_cost_flow.specs.Overfull.{IsOverfull, is_in}
use Rattle.flow_network.specs.FaceNet.{IsKeepingNet}
use Rattle.flow_network.proofs.Flowing.{supplies_sum_to_zero}
use Rattle.ortho_rep.specs.OfFlow.{angles_of, strings_of}
use Rattle.ortho_rep.proofs.FromFlow.{rep_of_flow, keeps_of_flow}
use Rattle.conditions.proofs.CutSets.{IsMade, shows_none}
use Rattle.conditions.proofs.cuts.violated_cut.Goals as goal

pub returns-in_default-clause-none : goal.returns-in_default-clause-none
returns-in_default-clause-none c =
    let p = c.args.plane.now in
    let net : NetworkModel = c.in_ok-net.net.network in
    let is : IsKeepingNet p c.args.given.now net = c.in_ok-net.ensures.net.network in
    let (y, flow) = rw c.in_default.is at c.in_ok-nodes.ensures.none in
    let flows : Flow net y = subst (λ (n : NetworkModel). Flow n y) c.network.ensures flow in
    (angles_of c.args.given.now y, strings_of p c.args.given.now y, rep_of_flow p net y c.graph-graph.ensures.ends c.is_nothing-is_nothing.ensures.can is flows, keeps_of_flow p c.args.given.now y)

pub returns-clause-shown : goal.returns-clause-shown
returns-clause-shown c =
    let p = c.args.plane.now in
    let net : NetworkModel = c.in_ok-net.net.network in
    let is : IsKeepingNet p c.args.given.now net = c.in_ok-net.ensures.net.network in
    let nodes = c.in-Some.nodes.items in
    let over : SuppliesSumToZero c.network.result.now → IsOverfull c.network.result.now (is_in nodes) = rw c.in-Some.is at c.in_ok-nodes.ensures.overfull in
    let overfull : IsOverfull net (is_in nodes) = (subst (λ (n : NetworkModel). SuppliesSumToZero n → IsOverfull n (is_in nodes)) c.network.ensures over) (supplies_sum_to_zero p net c.graph-graph.ensures.plane is) in
    let made : IsMade p c.args.given.now (is_in nodes) c.in_ok-vertices.vertices.items c.in_ok-faces.faces.items = record {
      vertices_size = c.in_ok-vertices.ensures.size;
      faces_size = c.in_ok-faces.ensures.size;
      faces = rw c.deref.ensures.value at c.in_ok-faces.ensures.each;
      some = c.in_ok-vertices.ensures.some;
      inside = rw c.deref-2.ensures.value at c.in_ok-vertices.ensures.inside;
      outside = rw c.deref-2.ensures.value at c.in_ok-vertices.ensures.outside;
    } in
    shows_none p net (is_in nodes) c.in_ok-vertices.vertices.items c.in_ok-faces.faces.items c.graph-graph.ensures.plane is made overfull
