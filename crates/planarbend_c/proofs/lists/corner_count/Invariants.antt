use Rattle.std.proofs.Common.{◌≡◌}
use Rattle.planarbend_c.specs.Found.{corners_before}
use Rattle.planarbend_c.proofs.lists.corner_count.Given as goal

abbrev pub invariant-loop-edge : goal.invariant-loop-edge
invariant-loop-edge l = l.count ≡ corners_before l.points.corners l.edge
