use Rattle.std.proofs.Common.{refl}
use Rattle.drawing_check.specs.Draws.{IsInGrid}
use Rattle.drawing_check.proofs.Straight.{none_all, axes_straight, turning_straight, added_straight, out_straight, back_straight}
use Rattle.drawing_check.proofs.edges.examine_straight.Goals as goal

pub returns-clause-in_grid : goal.returns-clause-in_grid
returns-clause-in_grid c = (λ _. none_all IsInGrid c.args.route.now.corners.now c.requires, λ _. refl)

pub returns-clause-on_axes : goal.returns-clause-on_axes
returns-clause-on_axes c = axes_straight c.args.route.now c.requires c.is_axial.result c.is_axial.ensures

pub returns-clause-turning : goal.returns-clause-turning
returns-clause-turning c = turning_straight c.args.route.now c.requires c.args.turns.now c.is_empty.result c.is_empty.ensures

pub returns-clause-added : goal.returns-clause-added
returns-clause-added c = λ t. added_straight c.args.route.now c.requires c.args.rectangles.now.items c.list_straight.new.rectangles.items (c.list_straight.ensures.added t)

pub returns-clause-out : goal.returns-clause-out
returns-clause-out c = out_straight c.args.route.now c.requires c.direction_from.result c.direction_from.ensures

pub returns-clause-back : goal.returns-clause-back
returns-clause-back c = back_straight c.args.route.now c.requires c.direction_from-2.result c.direction_from-2.ensures
