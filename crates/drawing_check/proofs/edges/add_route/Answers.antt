use Rattle.std.proofs.Common.{◌≡◌, List, [], ◌∷◌, ◌++◌, drop, get_or, sym, ap, ◌∙◌, arith}
use Rattle.std.proofs.lemmas.List.{drop_more, drop_all}
use Rattle.std.proofs.lemmas.Result.{on_ok_weaker}
use Rattle.ortho_rep.specs.declared.grid_points.Point.{Point}
use Rattle.ortho_rep.specs.Points.{origin}
use Rattle.drawing_check.specs.Shown.{rectangle_between, strips}
use Rattle.drawing_check.proofs.Strips.{add_strip}
use Rattle.drawing_check.proofs.edges.add_route.Goals as goal

pub loop-corner-preserved : goal.loop-corner-preserved
loop-corner-preserved c =
    let corners = c.args.route.now.corners.now in
    let corner : Point = get_or corners c.loop-corner.corner-index origin in
    add_strip c.loop-corner.rectangles.items c.push.new.self.items _ c.spanned.result c.loop-corner.from corner c.args.route.now.end _ _
    c.loop-corner.invariant (drop_more corners c.loop-corner.corner-index origin (omega arith)) (c.spanned.ensures ∙ ap (λ (a : Point). rectangle_between a corner) c.first_step.ensures) c.in_ok-push.ensures.items

pub returns : goal.returns
returns c =
    let none : drop c.loop-corner.corner-index c.args.route.now.corners.now ≡ [] = drop_all c.loop-corner.corner-index c.args.route.now.corners.now (omega arith) in
    on_ok_weaker c.add_last.result
    (λ is_new. is_new ∙ ap (λ (l : List Point). c.loop-corner.rectangles.items ++ strips (c.loop-corner.from ∷ (l ++ c.args.route.now.end ∷ []))) (sym none) ∙ c.loop-corner.invariant)
    c.add_last.ensures
