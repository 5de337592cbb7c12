use Rattle.std.proofs.Common.{◌++◌, ◌∙◌, [], ◌∷◌, List, map, sym, ap, append_assoc, arith}
use Rattle.std.specs.List.{range_with_len}
use Rattle.std.proofs.lemmas.List.FromFn.{map-range_with_len_more}
use Rattle.ortho_rep.specs.declared.grid_points.Point.{Point}
use Rattle.ortho_rep.specs.FlatPoints.{span_at}
use Rattle.ortho_rep.proofs.grid_points.push_spans.Goals as goal

pub loop-edge-preserved : goal.loop-edge-preserved
loop-edge-preserved c =
    let edge = c.loop-edge.edge in
    let span = span_at c.args.starts.now in
    let old = c.args.points.now.items in
    c.in_ok-push.ensures.items
    ∙ (ap (λ (ps : List Point). ps ++ (span edge ∷ [])) c.loop-edge.invariant
    ∙ (append_assoc old (map span (range_with_len 0 edge)) (span edge ∷ [])
    ∙ ap (λ (ps : List Point). old ++ ps) (sym (map-range_with_len_more span 0 edge edge (omega arith)))))
