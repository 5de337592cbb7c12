use Rattle.std.proofs.Common.{ℕ, ◌<◌, List, [], length, get_or, sym, subst, below_more, arith}
use Rattle.std.proofs.lemmas.Bool.{iff_false}
use Rattle.std.specs.List.{Any}
use Rattle.embedding.proofs.EachList.{yes_is, no_is, found_at, none_below}
use Rattle.embedding.proofs.breaks.breaks_range.Goals as goal

pub returns-then-exceeds : goal.returns-then-exceeds
returns-then-exceeds c =
    let g = c.args.lists.now in
    let counted : Any (λ v. length g < v) c.at.result.now =
    subst (λ (n : ℕ). Any (λ v. n < v) c.at.result.now) c.count-n.ensures.count (c.exceeds.ensures.0 c.if-exceeds.true) in
    yes_is (found_at g (λ _ l. Any (λ v. length g < v) l) c.loop-place.place (subst (λ (l : List ℕ). Any (λ v. length g < v) l) c.at.ensures.value counted))

pub loop-place-preserved : goal.loop-place-preserved
loop-place-preserved c =
    let g = c.args.lists.now in
    below_more _ _ c.loop-place.invariant
    (λ any. iff_false c.exceeds.ensures c.if-exceeds.false (subst (λ (l : List ℕ). Any (λ v. c.count-n.result < v) l) (sym c.at.ensures.value) (subst (λ (n : ℕ). Any (λ v. n < v) (get_or g c.loop-place.place [])) (sym c.count-n.ensures.count) any)))

pub returns : goal.returns
returns c =
    let g = c.args.lists.now in
    no_is (none_below g (λ _ l. Any (λ v. length g < v) l) c.loop-place.place (omega (arith, c.count-n.ensures.count)) (λ u any. absurd (omega (arith, any.2))) c.loop-place.invariant)
