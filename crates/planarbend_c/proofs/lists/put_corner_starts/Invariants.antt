use Rattle.std.proofs.Common.{◌≡◌, ◌+◌, ◌<◌, ℕ, drop}
use Rattle.std.specs.List.{slice_index}
use Rattle.planarbend_c.specs.Found.{corners_before}
use Rattle.planarbend_c.proofs.lists.put_corner_starts.Given as goal

abbrev pub invariant-loop-edge : goal.invariant-loop-edge
invariant-loop-edge l =
    (l.start ≡ corners_before l.points.corners l.edge)
    × ((e : ℕ) → e < l.edge + 1 → slice_index l.out e ≡ corners_before l.points.corners e)
    × (drop (l.edges + 1) l.out ≡ drop (l.edges + 1) l.initial.out)
