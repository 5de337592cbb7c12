use Rattle.std.proofs.Common.{◌≡◌, ℕ, ◌+◌, ◌<◌, ◌++◌, List, [], ◌∷◌, length, map, take, get_or, sym, ap, ◌∙◌, arith}
use Rattle.std.proofs.lemmas.List.{map_more, take_all}
use Rattle.geometry.specs.declared.plane_sweep.Rectangle.{Rectangle}
use Rattle.ortho_rep.specs.declared.grid_points.Point.{Point}
use Rattle.ortho_rep.specs.Points.{origin}
use Rattle.drawing_check.specs.Shown.{rectangle_between}
use Rattle.drawing_check.proofs.edges.list_vertices.Goals as goal

-- the rectangle of one more point
point_step : (ps : List Point) (k : ℕ) (old new : List Rectangle) (value : Rectangle) → k < length ps → old ≡ map (λ p. rectangle_between p p) (take k ps) → value ≡ rectangle_between (get_or ps k origin) (get_or ps k origin) → new ≡ old ++ value ∷ [] → new ≡ map (λ p. rectangle_between p p) (take (k + 1) ps)
point_step ps k old new value inside done is_value is_new =
    is_new
    ∙ ap (λ (r : Rectangle). old ++ r ∷ []) is_value
    ∙ ap (λ (rs : List Rectangle). rs ++ rectangle_between (get_or ps k origin) (get_or ps k origin) ∷ []) done
    ∙ sym (map_more (λ (p : Point). rectangle_between p p) ps k origin inside)

pub loop-point-preserved : goal.loop-point-preserved
loop-point-preserved c =
    point_step c.vertices-vertices.result.now c.loop-point.point-index c.loop-point.rectangles.items c.push.new.self.items c.spanned.result (omega arith) c.loop-point.invariant c.spanned.ensures c.in_ok-push.ensures.items

pub returns : goal.returns
returns c =
    c.loop-point.invariant
    ∙ ap (map (λ (p : Point). rectangle_between p p)) (take_all c.loop-point.point-index c.vertices-vertices.result.now (omega arith) ∙ c.vertices-vertices.ensures)
