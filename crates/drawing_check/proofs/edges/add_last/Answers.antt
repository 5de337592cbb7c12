use Rattle.std.proofs.Common.{[], refl, sym, ap, ◌∙◌}
use Rattle.std.proofs.lemmas.Bool.{not-true, not-false}
use Rattle.ortho_rep.specs.declared.grid_points.Point.{Point}
use Rattle.drawing_check.specs.Walks.{step_from}
use Rattle.drawing_check.specs.Shown.{rectangle_between, same_point}
use Rattle.drawing_check.proofs.Strips.{no_last_strip, last_strip}
use Rattle.drawing_check.proofs.edges.add_last.Goals as goal

pub returns-else-ne : goal.returns-else-ne
returns-else-ne c =
    let end = c.args.end in
    no_last_strip _ _ c.args.from end [] refl refl
    (ap (λ (q : Point). same_point q end) (sym c.first_step-first.ensures) ∙ not-false (same_point c.first_step-first.result end) (sym c.if-ne.ensures))

pub returns-in_ok-push : goal.returns-in_ok-push
returns-in_ok-push c =
    let from = c.args.from in
    let end = c.args.end in
    last_strip _ _ _ c.spanned.result from end [] refl refl
    (ap (λ (q : Point). same_point q end) (sym c.first_step-first.ensures) ∙ not-true (same_point c.first_step-first.result end) (sym c.if-ne.ensures))
    (c.spanned.ensures ∙ ap (λ (a : Point). rectangle_between a c.first_step.result) c.first_step-first.ensures ∙ ap (λ (b : Point). rectangle_between (step_from from end 1) b) c.first_step.ensures)
    c.in_ok-push.ensures.items
