use Rattle.std.proofs.Common.{IfOk, rules, subst, sym}
use Rattle.compact.specs.Monotone.{IsCompactFault}
use Rattle.answers.proofs.DrawnAnswers.{none_shown}
use Rattle.drawing_laws.proofs.Drawn.{least_points_draw}
use Rattle.drawing_laws.proofs.DrawnRegions.{least_points_have_regions}
use Rattle.reports.specs.declared.answer.Cause.TheVariants as cause
use Rattle.reports.specs.Drawn.{IsCause, IsDrawn}
use Rattle.reports.specs.Lengths.{IsNear, IsNoLonger, IsQuick}
use Rattle.answers.specs.Drawings.{IsDrawing}
use Rattle.answers.proofs.Lengths.{quick_is_no_longer, quick_is_near}
use Rattle.answers.proofs.drawing.points_of.Goals as goal

-- boxes of a least shape show no cause

pub unreachable-requires : goal.unreachable-requires
unreachable-requires c =
    let boxes = c.in_ok-boxes-in-Quick.boxes in
    none_shown c.args.shaped_plane.now.plane c.args.shaped_plane.now.shape boxes cause.Wide c.graph-graph.ensures.plane c.requires c.in_ok-boxes-in-Quick.ensures
    (subst (IsCompactFault boxes) c.in-Err-Wide.field-0-is c.in-Err-Wide.ensures.fault)

pub unreachable-requires-in-Err : goal.unreachable-requires-in-Err
unreachable-requires-in-Err c =
    let plane = c.args.shaped_plane.now.plane in
    let shape = c.args.shaped_plane.now.shape in
    let is : IsCause plane shape c.in-Err.field-0 = subst (IsDrawn plane shape) c.in-Err.is c.in_ok-drawing-in-Short.ensures.drawn in
    none_shown plane shape is.boxes c.in-Err.field-0 c.graph-graph.ensures.plane c.requires is.boxed is.shown

pub returns-in-Ok-clause-drawn : goal.returns-in-Ok-clause-drawn
returns-in-Ok-clause-drawn c =
    let plane = c.args.shaped_plane.now.plane in
    let shape = c.args.shaped_plane.now.shape in
    let boxes = c.in_ok-boxes-in-Quick.boxes in
    let boxed = c.in_ok-boxes-in-Quick.ensures in
    let is_plane = c.graph-graph.ensures.plane in
    let quick : IsQuick plane shape c.in-Ok.points = record { boxes = boxes; boxed = boxed; least = c.in-Ok.ensures.least } in
    record {
      drawn = record {
        whole = search rules;
        draws = least_points_draw plane shape boxes c.in-Ok.points is_plane boxed c.in-Ok.ensures.least;
        regions = least_points_have_regions plane shape boxes c.in-Ok.points is_plane boxed c.in-Ok.ensures.least;
      };
      no_longer = quick_is_no_longer plane shape c.in-Ok.points quick;
      near = quick_is_near plane shape c.in-Ok.points quick;
    }

pub returns-in-Ok-2-clause-drawn : goal.returns-in-Ok-2-clause-drawn
returns-in-Ok-2-clause-drawn c =
    let plane = c.args.shaped_plane.now.plane in
    let shape = c.args.shaped_plane.now.shape in
    subst (IsDrawing plane shape) (sym c.into_points.ensures) (record {
      drawn = subst (IsDrawn plane shape) c.in-Ok-2.is c.in_ok-drawing-in-Short.ensures.drawn;
      no_longer = subst (λ drawn. IfOk drawn (IsNoLonger plane shape)) c.in-Ok-2.is c.in_ok-drawing-in-Short.ensures.no_longer;
      near = subst (λ drawn. IfOk drawn (IsNear plane shape)) c.in-Ok-2.is c.in_ok-drawing-in-Short.ensures.near;
    })
