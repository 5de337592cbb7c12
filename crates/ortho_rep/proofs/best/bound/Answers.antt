use Rattle.std.proofs.Common.{rules, w32, ◌≡◌, ◌+◌, subst, ap, arith}
use Rattle.std.proofs.lemmas.Int.{to_z-of_z}
use mir.Val.{SFits}
use Rattle.faces.specs.Planes.{vertices}
use Rattle.min_cost_flow.specs.Networks.{NetworkModel}
use Rattle.min_cost_flow.specs.Flow.{at_nodes}
use Rattle.min_cost_flow.specs.SolverState.{IsShown}
use Rattle.ortho_rep.proofs.Tries.{bound_of_potentials}
use Rattle.ortho_rep.proofs.best.bound.Goals as goal

pub returns : goal.returns
returns c =
    let plane = c.args.plane.now in
    let net = c.args.moving.now.net in
    let bends = c.args.bends in
    let ps = c.args.potentials.now in
    let first = c.face_node.result in
    let second = c.face_node-2.result in
    let own : SFits w32 (at_nodes ps first) = search rules in
    let other : SFits w32 (at_nodes ps second) = search rules in
    let sum = simp to_z-of_z at c.moved_bound.ensures in
    let first_is : first ≡ vertices plane + plane.outer = omega (arith, c.face_node.ensures, c.outer.ensures.value, c.requires.moving.net.vertices) in
    let second_is : second ≡ vertices plane + c.args.face = omega (arith, c.face_node-2.ensures, c.requires.moving.net.vertices) in
    let shown = subst (λ (n : NetworkModel). IsShown n bends ps) c.requires.moving.same c.requires.shown in
    bound_of_potentials plane net.network bends ps c.args.face c.moved_bound.result (at_nodes ps first) (at_nodes ps second) c.graph-graph.ensures.ends (c.graph-graph.ensures.plane).outer c.requires.named c.requires.moving.net.network shown (ap (at_nodes ps) first_is) (ap (at_nodes ps) second_is) sum
