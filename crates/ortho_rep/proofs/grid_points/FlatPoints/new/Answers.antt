use Rattle.std.proofs.Common.{◌≡◌, ◌++◌, ◌∙◌, List, length, ap, arith}
use Rattle.ortho_rep.specs.declared.grid_points.Point.{Point}
use Rattle.ortho_rep.specs.FlatPoints.{spans_of}
use Rattle.ortho_rep.proofs.Spans.{concatenated-is, concatenated-within}
use Rattle.ortho_rep.proofs.grid_points.FlatPoints.new.Goals as goal

pub invariant_of-result : goal.invariant_of-result
invariant_of-result c =
    let vs = c.args.vertices.items in
    let cs = c.args.corners.now in
    let starts = c.args.starts.now in
    let first : c.len-first.result ≡ length vs = omega (arith, c.len-first.ensures, c.args.vertices.ok) in
    let items : c.push_spans.new.points.items ≡ (vs ++ cs) ++ spans_of starts =
    c.in_ok-push_spans.ensures ∙ ap (λ (ps : List Point). ps ++ spans_of starts) (c.in_ok-extend_from_slice.ensures.items ∙ ap (λ (ps : List Point). ps ++ cs) c.in_ok-reserve_exact.ensures.items) in
    rw (first, items) (concatenated-within vs cs starts c.requires.places)

pub returns : goal.returns
returns c =
    let vs = c.args.vertices.items in
    let cs = c.args.corners.now in
    let starts = c.args.starts.now in
    let first : c.len-first.result ≡ length vs = omega (arith, c.len-first.ensures, c.args.vertices.ok) in
    let items : c.push_spans.new.points.items ≡ (vs ++ cs) ++ spans_of starts =
    c.in_ok-push_spans.ensures ∙ ap (λ (ps : List Point). ps ++ spans_of starts) (c.in_ok-extend_from_slice.ensures.items ∙ ap (λ (ps : List Point). ps ++ cs) c.in_ok-reserve_exact.ensures.items) in
    rw (first, items) (concatenated-is vs cs starts c.requires.places)
