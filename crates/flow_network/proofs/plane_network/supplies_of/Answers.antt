use Rattle.std.proofs.Common.{◌∙◌, ap, sym}
use Rattle.flow_network.specs.Given.{GivenModel}
use Rattle.flow_network.specs.FaceNet.{vertex_has_to_turn, face_has_to_turn}
use Rattle.flow_network.proofs.GivenParts.{vertex_plain, face_plain}
use Rattle.flow_network.proofs.plane_network.supplies_of.Goals as goal

pub returns-then-is_nothing-clause-at_vertex : goal.returns-then-is_nothing-clause-at_vertex
returns-then-is_nothing-clause-at_vertex c v some most =
    let p = c.args.plane.now in
    let nothing = c.is_nothing.ensures.nothing.0 c.if-is_nothing.true in
    c.in_ok-supplies.ensures.at_vertex v some most ∙ sym (vertex_plain p v) ∙ ap (λ (given : GivenModel). vertex_has_to_turn p given v) (sym nothing)

pub returns-then-is_nothing-clause-at_face : goal.returns-then-is_nothing-clause-at_face
returns-then-is_nothing-clause-at_face c f inside =
    let p = c.args.plane.now in
    let nothing = c.is_nothing.ensures.nothing.0 c.if-is_nothing.true in
    c.in_ok-supplies.ensures.at_face f inside ∙ sym (face_plain p f) ∙ ap (λ (given : GivenModel). face_has_to_turn p given f) (sym nothing)
