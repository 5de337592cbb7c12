use Rattle.std.proofs.Common.{◌≡◌, drop, length, take}
use Rattle.planarbend_c.proofs.lists.put_vertex_prices.Given as goal

abbrev pub invariant-loop-place : goal.invariant-loop-place
invariant-loop-place l =
    (take l.place l.out ≡ take l.place (l.prices.vertices))
    × (drop (length l.prices.vertices) l.out ≡ drop (length l.prices.vertices) l.initial.out)
