use Rattle.std.proofs.Common.{◌∙◌, ℕ, List, length, ap, sym}
use Rattle.embedding.specs.Lists.{list_of}
use Rattle.flow_network.proofs.VertexDegrees.{vertex_degree-degree}
use Rattle.flow_network.proofs.plane_network.degree_of.Goals as goal

pub returns : goal.returns
returns c =
    ap length (c.neighbours.ensures.value ∙ ap (λ (g : List (List ℕ)). list_of g c.args.vertex) c.graph.ensures.value)
    ∙ sym (vertex_degree-degree c.args.plane.now c.graph.ensures.plane c.args.vertex c.requires.some c.requires.within)
