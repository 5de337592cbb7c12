use Rattle.std.proofs.Common.{IfOk, subst}
use Rattle.reports.specs.Drawn.{IsCause, IsDrawn, IsDrawingOf}
use Rattle.answers.proofs.WideOnly.{shown_wide}
use Rattle.reports.specs.Lengths.{IsNear, IsNoLonger, IsQuick}
use Rattle.answers.proofs.Straight.{drawn_as_asked, drawn_straight}
use Rattle.answers.proofs.kept.RecordScratch.draw_keeping.Goals as goal

pub returns-in-Ok-Ok-clause-drawn : goal.returns-in-Ok-Ok-clause-drawn
returns-in-Ok-Ok-clause-drawn c =
    let plane = c.args.kept.now.plane in
    let shape = c.args.kept.now.shape in
    record {
      drawn = subst (IsDrawn plane shape) c.in-Ok-Ok.field-0-is c.in-Ok-Ok.ensures.drawn;
      no_longer = subst (λ drawn. IfOk drawn (IsNoLonger plane shape)) c.in-Ok-Ok.field-0-is c.in-Ok-Ok.ensures.no_longer;
      near = subst (λ drawn. IfOk drawn (IsNear plane shape)) c.in-Ok-Ok.field-0-is c.in-Ok-Ok.ensures.near;
    }

pub returns-in-Ok-Ok-clause-straight : goal.returns-in-Ok-Ok-clause-straight
returns-in-Ok-Ok-clause-straight c =
    let plane = c.args.kept.now.plane in
    let shape = c.args.kept.now.shape in
    let drawn : IsDrawingOf plane shape c.in-Ok-Ok.drawing = subst (IsDrawn plane shape) c.in-Ok-Ok.field-0-is c.in-Ok-Ok.ensures.drawn in
    drawn_straight plane shape c.in-Ok-Ok.drawing drawn.draws

pub returns-in-Ok-Ok-clause-kept : goal.returns-in-Ok-Ok-clause-kept
returns-in-Ok-Ok-clause-kept c = λ conditions choice known.
    let plane = c.args.kept.now.plane in
    let shape = c.args.kept.now.shape in
    let points = c.in-Ok-Ok.drawing in
    let drawn : IsDrawingOf plane shape points = subst (IsDrawn plane shape) c.in-Ok-Ok.field-0-is c.in-Ok-Ok.ensures.drawn in
    drawn_as_asked conditions choice plane shape c.args.kept.now.prices points known drawn.draws

pub returns-in-Ok-Ok-clause-quick : goal.returns-in-Ok-Ok-clause-quick
returns-in-Ok-Ok-clause-quick c asked =
    subst (λ drawn. IfOk drawn (IsQuick c.args.kept.now.plane c.args.kept.now.shape)) c.in-Ok-Ok.field-0-is (c.in-Ok-Ok.ensures.quick asked)

pub returns-in-Ok-Err-clause-wide : goal.returns-in-Ok-Err-clause-wide
returns-in-Ok-Err-clause-wide c _ =
    let plane = c.args.kept.now.plane in
    let shape = c.args.kept.now.shape in
    let cause = c.in-Ok-Err.field-0-0 in
    let is : IsCause plane shape cause = subst (IsDrawn plane shape) c.in-Ok-Err.field-0-is c.in-Ok-Err.ensures.drawn in
    subst (IsCause plane shape) (shown_wide plane shape is.boxes cause c.graph-graph.ensures.plane is.boxed is.shown) is
