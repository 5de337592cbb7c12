use Rattle.std.proofs.Common.{◌≡◌, sym, ◌∙◌}
use Rattle.std.proofs.lemmas.Bool.{eqb-true, eq-eqb}
use Rattle.faces.specs.Planes.{darts, face_at}
use Rattle.drawing_check.specs.Westmost.{westmost_below, face_on_west}
use Rattle.drawing_check.proofs.WestParts.{regions_by_face}
use Rattle.drawing_check.proofs.face_regions.outside_is_outer.Goals as goal

pub returns : goal.returns
returns c = λ shape is draws.
    let p = c.args.plane.now in
    let points = c.args.drawing.now in
    let found : c.westmost_face-face.result ≡ face_on_west (westmost_below p points (darts p)) (face_at p 0) =
    rw c.points.ensures at c.westmost_face-face.ensures in
    let told = regions_by_face p shape points c.graph-graph.ensures.plane is c.requires.points.vertex_count draws in (
      λ same. told.1 (sym found ∙ eqb-true c.westmost_face-face.result c.outer.result same ∙ c.outer.ensures.value),
      λ regions. eq-eqb c.westmost_face-face.result c.outer.result (found ∙ told.0 regions ∙ sym c.outer.ensures.value),
    )
