use Rattle.std.proofs.Common.{arith}
use Rattle.faces.specs.Planes.{darts}
use Rattle.ortho_rep.proofs.EdgeNumbers.{edge_total, edge_number-below}
use Rattle.drawing_check.proofs.route.route_of.Goals as goal

pub corners-requires : goal.corners-requires
corners-requires c =
    let p = c.args.plane.now in
    let total = edge_total p c.graph-graph.ensures.ends in
    let below = edge_number-below p (darts p) c.args.dart c.requires.inside c.requires.lesser in
    omega (arith, total, below, c.requires.number, c.requires.points.edge_count)
