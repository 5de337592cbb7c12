use Rattle.drawing_check.specs.Routes.{path_of}
use Rattle.drawing_check.proofs.WestParts.{edge_is}
use Rattle.drawing_check.proofs.face_regions.west_with_edge.Goals as goal

pub returns : goal.returns
returns c =
    edge_is c.args.plane.now c.args.points.now c.args.west c.west_with_path.result c.args.dart c.args.reverse c.face_of.result c.face_of-2.result (path_of c.route_of-route.result)
    c.requires.reverse c.face_of.ensures.value c.face_of-2.ensures.value c.route_of-route.ensures.path c.west_with_path.ensures
