use Rattle.std.proofs.Common.{◌≡◌, drop, length, take}
use Rattle.planarbend_c.specs.Found.{all_corners, corners_before}
use Rattle.planarbend_c.proofs.lists.put_corners.Given as goal

abbrev pub invariant-loop-edge : goal.invariant-loop-edge
invariant-loop-edge l =
    (l.start ≡ corners_before l.points.corners l.edge)
    × (take l.start l.out ≡ all_corners (take l.edge l.points.corners))
    × (drop (length (all_corners l.points.corners)) l.out ≡ drop (length (all_corners l.points.corners)) l.initial.out)
