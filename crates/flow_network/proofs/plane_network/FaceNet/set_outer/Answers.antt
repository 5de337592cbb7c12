use Rattle.std.proofs.Common.{◌≡◌, ◌+◌, ℕ, ap, sym, ◌∙◌, subst, arith}
use Rattle.faces.specs.Planes.{vertices, with_outer}
use Rattle.min_cost_flow.specs.Networks.{NetworkModel, shifted, HasSuppliesInRange}
use Rattle.flow_network.specs.FaceNet.{IsFaceNet, FaceNetModel}
use Rattle.flow_network.proofs.OuterSet.{net_set, set_fair}
use Rattle.flow_network.proofs.plane_network.FaceNet.set_outer.Goals as goal

pub shift-requires-clause-in_range : goal.shift-requires-clause-in_range
shift-requires-clause-in_range c =
    let p = c.args.plane.now in
    let net : NetworkModel = c.self.inside.network in
    let is : IsFaceNet p net = subst (IsFaceNet p) (sym (ap (λ (n : FaceNetModel). n.network) c.self.view_is)) c.requires.net.network in
    let named = c.outer.ensures.named in
    let turned = net_set p net c.args.face (omega (arith, c.outer.ensures.value)) c.requires.face is in
    let from_is : c.face_node-from.result ≡ vertices p + p.outer = omega (arith, ap (λ (n : FaceNetModel). n.vertices) c.self.view_is, c.requires.net.vertices, c.outer.ensures.value, c.face_node-from.ensures) in
    let to_is : c.face_node-to.result ≡ vertices p + c.args.face = omega (arith, ap (λ (n : FaceNetModel). n.vertices) c.self.view_is, c.requires.net.vertices, c.face_node-to.ensures) in
    subst (λ (k : ℕ). HasSuppliesInRange (shifted net k c.face_node-to.result 8)) (sym from_is)
    (subst (λ (k : ℕ). HasSuppliesInRange (shifted net (vertices p + p.outer) k 8)) (sym to_is)
    (set_fair p _ c.args.face c.graph-graph.ensures.plane turned))

pub returns-clause-net : goal.returns-clause-net
returns-clause-net c =
    let p = c.args.plane.now in
    let net : NetworkModel = c.self.inside.network in
    let is : IsFaceNet p net = subst (IsFaceNet p) (sym (ap (λ (n : FaceNetModel). n.network) c.self.view_is)) c.requires.net.network in
    let turned = net_set p net c.args.face (omega (arith, c.outer.ensures.value, c.outer.ensures.named)) c.requires.face is in
    let from_is : c.face_node-from.result ≡ vertices p + p.outer = omega (arith, ap (λ (n : FaceNetModel). n.vertices) c.self.view_is, c.requires.net.vertices, c.outer.ensures.value, c.face_node-from.ensures) in
    let to_is : c.face_node-to.result ≡ vertices p + c.args.face = omega (arith, ap (λ (n : FaceNetModel). n.vertices) c.self.view_is, c.requires.net.vertices, c.face_node-to.ensures) in
    let net_is : c.shift.new.self ≡ shifted net (vertices p + p.outer) (vertices p + c.args.face) 8 =
    c.shift.ensures ∙ ap (λ (k : ℕ). shifted net k c.face_node-to.result 8) from_is ∙ ap (λ (k : ℕ). shifted net (vertices p + p.outer) k 8) to_is in
    record {
      vertices = ap (λ (n : FaceNetModel). n.vertices) c.self.view_is ∙ c.requires.net.vertices;
      darts = ap (λ (n : FaceNetModel). n.darts) c.self.view_is ∙ c.requires.net.darts;
      network = subst (IsFaceNet (with_outer p c.args.face)) (sym net_is) turned;
    }
