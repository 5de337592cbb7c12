use Rattle.std.proofs.Common.{◌≡◌, ◌+◌, ◌++◌, drop, length, map, take}
use Rattle.planarbend_c.specs.Found.{grid_point}
use Rattle.planarbend_c.proofs.lists.put_corners_at.Given as goal

abbrev pub invariant-loop-place : goal.invariant-loop-place
invariant-loop-place l =
    (take (l.start + l.place) l.out ≡ take l.start l.initial.out ++ map grid_point (take l.place l.corners))
    × (drop (l.start + length l.corners) l.out ≡ drop (l.start + length l.corners) l.initial.out)
