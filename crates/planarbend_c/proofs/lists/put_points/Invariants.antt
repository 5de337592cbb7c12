use Rattle.std.proofs.Common.{◌≡◌, drop, length, map, take}
use Rattle.planarbend_c.specs.Found.{grid_point}
use Rattle.planarbend_c.proofs.lists.put_points.Given as goal

abbrev pub invariant-loop-place : goal.invariant-loop-place
invariant-loop-place l =
    (take l.place l.out ≡ map grid_point (take l.place l.points))
    × (drop (length l.points) l.out ≡ drop (length l.points) l.initial.out)
