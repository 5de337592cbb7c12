use Rattle.std.proofs.Common.{ℕ, ◌+◌, List, sym, subst, below_more, arith}
use Rattle.std.proofs.lemmas.Bool.{iff_false}
use Rattle.std.specs.List.{Contains}
use Rattle.embedding.proofs.EachList.{yes_is, no_is, found_at, none_below}
use Rattle.embedding.proofs.breaks.breaks_loop.Goals as goal

pub returns-then-holds : goal.returns-then-holds
returns-then-holds c =
    let g = c.args.lists.now in
    yes_is (found_at g (λ u l. Contains l u) c.loop-place.place (subst (λ (l : List ℕ). Contains l (c.loop-place.place + 1)) c.at.ensures.value (c.holds.ensures.0 c.if-holds.true)))

pub loop-place-preserved : goal.loop-place-preserved
loop-place-preserved c =
    let g = c.args.lists.now in
    below_more _ _ c.loop-place.invariant
    (λ there. iff_false c.holds.ensures c.if-holds.false (subst (λ (l : List ℕ). Contains l (c.loop-place.place + 1)) (sym c.at.ensures.value) there))

pub returns : goal.returns
returns c =
    let g = c.args.lists.now in
    no_is (none_below g (λ u l. Contains l u) c.loop-place.place (omega (arith, c.count-place-end.ensures.count)) (λ u there. absurd (omega (arith, there.1))) c.loop-place.invariant)
