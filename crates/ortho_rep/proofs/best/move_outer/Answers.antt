use Rattle.std.proofs.Common.{◌≡◌, ◌+◌, ℕ, ap, sym, ◌∙◌, subst, arith}
use Rattle.faces.specs.Planes.{with_outer}
use Rattle.min_cost_flow.specs.Networks.{NetworkModel, shifted, HasSuppliesInRange}
use Rattle.min_cost_flow.specs.Flow.{Flow}
use Rattle.flow_network.proofs.OuterSet.{set_fair}
use Rattle.flow_network.proofs.Flowing.{net_flows}
use Rattle.flow_network.proofs.Faultless.{arc_ends}
use Rattle.ortho_rep.proofs.Tries.{plane_moved}
use Rattle.ortho_rep.proofs.best.move_outer.Goals as goal

pub shift-requires-clause-in_range : goal.shift-requires-clause-in_range
shift-requires-clause-in_range c =
    let p = c.args.plane.now in
    let w = c.args.moving in
    let from_is : c.face_node-from.result ≡ w.net.vertices + p.outer = omega (arith, c.face_node-from.ensures, c.outer.ensures.value) in
    let net_is : shifted w.warm_start c.face_node-from.result c.face_node-to.result 8 ≡ c.set_outer.new.self.network =
    ap (λ (n : NetworkModel). shifted n c.face_node-from.result c.face_node-to.result 8) c.requires.moving.same
    ∙ ap (λ (k : ℕ). shifted w.net.network k c.face_node-to.result 8) from_is
    ∙ ap (λ (k : ℕ). shifted w.net.network (w.net.vertices + p.outer) k 8) c.face_node-to.ensures
    ∙ sym c.set_outer.ensures.moved in
    subst HasSuppliesInRange (sym net_is) (set_fair p c.set_outer.new.self.network c.args.face c.graph-graph.ensures.plane c.set_outer.ensures.net.network)

pub unreachable-requires : goal.unreachable-requires
unreachable-requires c =
    let p = c.args.plane.now in
    let w = c.args.moving in
    let from_is : c.face_node-from.result ≡ w.net.vertices + p.outer = omega (arith, c.face_node-from.ensures, c.outer.ensures.value) in
    let net_is : shifted w.warm_start c.face_node-from.result c.face_node-to.result 8 ≡ c.set_outer.new.self.network =
    ap (λ (n : NetworkModel). shifted n c.face_node-from.result c.face_node-to.result 8) c.requires.moving.same
    ∙ ap (λ (k : ℕ). shifted w.net.network k c.face_node-to.result 8) from_is
    ∙ ap (λ (k : ℕ). shifted w.net.network (w.net.vertices + p.outer) k 8) c.face_node-to.ensures
    ∙ sym c.set_outer.ensures.moved in
    let plane = plane_moved p c.args.face c.requires.face c.graph-graph.ensures.plane in
    let is = c.set_outer.ensures.net.network in
    let (y, flow) = net_flows (with_outer p c.args.face) c.set_outer.new.self.network plane is (arc_ends (with_outer p c.args.face) c.set_outer.new.self.network plane is) in
    c.in-None.ensures.no_flow y (subst (λ (n : NetworkModel). Flow n y) (sym net_is) flow)
