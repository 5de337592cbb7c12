use Rattle.std.proofs.Common.{◌≡◌, drop, length, take}
use Rattle.planarbend_c.proofs.lists.put_face_prices.Given as goal

abbrev pub invariant-loop-face : goal.invariant-loop-face
invariant-loop-face l =
    (take l.face l.out ≡ take l.face (l.prices.faces))
    × (drop (length l.prices.faces) l.out ≡ drop (length l.prices.faces) l.initial.out)
