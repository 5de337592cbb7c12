use Rattle.std.proofs.Common.{◌≡◌, ◌∙◌, ◌+◌, List, Some, All, ap, arith, length, map, subst, sym}
use Rattle.embedding.specs.Darts.{dart_count}
use Rattle.ortho_rep.specs.declared.grid_points.Point.{Point}
use Rattle.drawing_check.specs.Draws.{IsInGrid}
use Rattle.planarbend_c.specs.Held.{Holds}
use Rattle.answers.specs.Drawings.{IsDrawing}
use Rattle.planarbend_c.specs.Found.{IsDrawnIfAsked, all_corners, corners_drawn, grid_point}
use Rattle.planarbend_c.proofs.Written.{same_for}
use Rattle.planarbend_c.proofs.export.write.Goals as goal

pub put_corner_starts-requires-clause-few : goal.put_corner_starts-requires-clause-few
put_corner_starts-requires-clause-few c =
    let some : c.args.layout.now.drawing ≡ Some c.in-Some.points = c.in-Some.is in
    let all : c.args.counts.corners ≡ length (all_corners c.in-Some.points.corners) = c.requires.counted.corners ∙ ap corners_drawn some in
    omega (arith, all)

pub put_points-requires-clause-grid : goal.put_points-requires-clause-grid
put_points-requires-clause-grid c =
    let plane = c.args.layout.now.laid.plane in
    let shape = c.args.layout.now.laid.shape in
    let drawing : IsDrawing plane shape c.in-Some.points = subst (IsDrawnIfAsked plane shape) c.in-Some.is c.requires.drawn in
    subst (λ (ps : List Point). All IsInGrid ps) (sym c.vertices.ensures) drawing.drawn.draws.grid.ends

pub put_corners-requires-clause-grid : goal.put_corners-requires-clause-grid
put_corners-requires-clause-grid c =
    let plane = c.args.layout.now.laid.plane in
    let shape = c.args.layout.now.laid.shape in
    let drawing : IsDrawing plane shape c.in-Some.points = subst (IsDrawnIfAsked plane shape) c.in-Some.is c.requires.drawn in
    drawing.drawn.draws.grid.bends

pub returns-in-Some-clause-held : goal.returns-in-Some-clause-held
returns-in-Some-clause-held c =
    let some : c.args.layout.now.drawing ≡ Some c.in-Some.points = c.in-Some.is in
    record {
      angles = c.put_angles.ensures.held;
      turns = c.put_turns.ensures.held;
      vertices = c.put_vertex_prices.ensures.held;
      faces = c.put_face_prices.ensures.held;
      points = rw some (record {
        vertices = subst (λ (ps : List Point). Holds c.put_points.new.out (map grid_point ps)) c.vertices.ensures c.put_points.ensures.held;
        starts = c.put_corner_starts.ensures.held;
        corners = c.put_corners.ensures.held;
      });
    }

pub returns-in-Some-clause-rest : goal.returns-in-Some-clause-rest
returns-in-Some-clause-rest c =
    let layout = c.args.layout.now in
    let counts = c.args.counts in
    let counted = c.requires.counted in
    let points = c.in-Some.points in
    let drawing : IsDrawing layout.laid.plane layout.laid.shape points = subst (IsDrawnIfAsked layout.laid.plane layout.laid.shape) c.in-Some.is c.requires.drawn in
    let darts = layout.laid.shape_is.lengths in
    let edges : c.edges-edges.result ≡ counts.edges = omega (arith, c.edges-edges.ensures.count, ap dart_count c.graph.ensures.value, counted.edges) in
    record {
      angles = same_for _ _ _ _ (omega (arith, darts.angles, counted.edges)) c.put_angles.ensures.rest;
      turns = same_for _ _ _ _ (omega (arith, darts.strings, counted.edges)) c.put_turns.ensures.rest;
      vertices = same_for _ _ _ _ (layout.priced.vertices ∙ sym counted.vertices) c.put_vertex_prices.ensures.rest;
      faces = same_for _ _ _ _ (layout.priced.faces ∙ sym counted.faces) c.put_face_prices.ensures.rest;
      points = same_for _ _ _ _ (ap length c.vertices.ensures ∙ drawing.drawn.whole.vertex_count ∙ sym counted.vertices) c.put_points.ensures.rest;
      starts = same_for _ _ _ _ (ap (λ n. n + 1) edges) c.put_corner_starts.ensures.rest;
      corners = same_for _ _ _ _ (sym (counted.corners ∙ ap corners_drawn c.in-Some.is)) c.put_corners.ensures.rest;
    }
