-- The greatest face that is not barred.
use Rattle.std.proofs.Common.{◌≡◌, ℕ, ◌+◌, ◌<◌, ◌≤◌, Bool, List, subst, sym, arith}
use Rattle.std.specs.Prelude.{Option, Some, None, IfSome}
use Rattle.faces.specs.Planes.{PlaneModel, with_outer}
use Rattle.conditions.specs.Chosen.{IsGreatestBefore, IsGreatestSoFar}

-- it is a face
pub so_far_named : (p : PlaneModel) (barred : List Bool) (n : ℕ) (best : Option ℕ) → n < p.faces → IsGreatestSoFar p barred n best → IfSome best (λ so_far. so_far < p.faces)
so_far_named p barred n None lt known = tt
so_far_named p barred n (Some o) lt known = omega (arith, known.before, lt)

-- it is so whichever face is the outer one
pub greatest_moved : (p q : PlaneModel) (barred : List Bool) (o : ℕ) → q ≡ with_outer p o → IsGreatestBefore p barred p.faces o → IsGreatestBefore q barred q.faces q.outer
greatest_moved p q barred o is known =
    let moved : IsGreatestBefore (with_outer p o) barred p.faces o = record { before = known.before; open_face = known.open_face; most = known.most; first = known.first } in
    subst (λ (m : PlaneModel). IsGreatestBefore m barred m.faces m.outer) (sym is) moved
