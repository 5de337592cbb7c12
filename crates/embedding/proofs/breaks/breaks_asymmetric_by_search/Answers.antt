use Rattle.std.proofs.Common.{◌+◌, below_more, arith}
use Rattle.std.proofs.lemmas.Bool.{iff_false}
use Rattle.embedding.proofs.EachList.{yes_is, no_is}
use Rattle.embedding.proofs.Symmetry.{returns_none}
use Rattle.embedding.proofs.breaks.breaks_asymmetric_by_search.Goals as goal

pub returns-then-lacks_return : goal.returns-then-lacks_return
returns-then-lacks_return c = yes_is (c.loop-place.place + 1, c.lacks_return.ensures.0 c.if-lacks_return.true)

pub loop-place-preserved : goal.loop-place-preserved
loop-place-preserved c =
    below_more _ _ c.loop-place.invariant (λ any. iff_false c.lacks_return.ensures c.if-lacks_return.false any)

pub returns : goal.returns
returns c =
    no_is (returns_none c.args.lists.now c.loop-place.place (omega (arith, c.count-place-end.ensures.count, c.loop-place-test.false)) c.loop-place.invariant)
