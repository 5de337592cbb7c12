use Rattle.std.proofs.Common.{rules, arith, sym, subst}
use Rattle.drawing_check.specs.Regions.{HasRegions}
use Rattle.drawing_laws.proofs.DrawnRegions.{least_points_have_regions}
use Rattle.reports.specs.Lengths.{IsNear}
use Rattle.answers.proofs.Lengths.{quick_is_near, still_below}
use Rattle.answers.proofs.drawing.draw.Goals as goal

pub returns-in-Ok-Some-clause-near : goal.returns-in-Ok-Some-clause-near
returns-in-Ok-Some-clause-near c =
    still_below c.vertices-limit.result _ c.in-Ok-Some.shorter (omega (arith, c.vertices-limit.ensures.value, c.in_ok-boxes.ensures.few)) (rw c.in-Ok-Some.field-0-is at c.in-Ok-Some.ensures.below)

pub returns-in-Ok-check_in-clause-near : goal.returns-in-Ok-check_in-clause-near
returns-in-Ok-check_in-clause-near c =
    subst (IsNear c.args.plane.now c.args.shape.now) (sym c.in-Ok-check_in.ensures.taken.same)
    (quick_is_near c.args.plane.now c.args.shape.now c.in-Ok.points (record { boxes = c.in_ok-boxes.boxes; boxed = c.in_ok-boxes.ensures; least = c.in-Ok.ensures.least }))

pub returns-in-Ok-check_in-clause-drawn : goal.returns-in-Ok-check_in-clause-drawn
returns-in-Ok-check_in-clause-drawn c = record {
  whole = search rules;
  draws = search rules;
  regions = subst (HasRegions c.args.plane.now) (sym c.in-Ok-check_in.ensures.taken.same)
      (least_points_have_regions c.args.plane.now c.args.shape.now c.in_ok-boxes.boxes c.in-Ok.points c.graph-graph.ensures.plane c.in_ok-boxes.ensures c.in-Ok.ensures.least);
}
