use Rattle.std.proofs.Common.{◌≡◌, ℕ, ◌+◌, ◌-◌, ◌<◌, get_or, true, false, subst, arith}
use Rattle.embedding.proofs.EachList.{yes_is, no_is}
use Rattle.embedding.proofs.Reached.{unreached_breaks, reached_keeps}
use Rattle.embedding.proofs.adjacency.breaks_disconnected.Goals as goal

pub returns : goal.returns
returns c =
    no_is (reached_keeps c.args.lists.now _ c.reached_from_first-reached.ensures (λ v from to.
    let place : v - 1 < c.loop-place.place = omega (arith, c.count-place-end.ensures.count, c.loop-place-test.false) in
    subst (λ (n : ℕ). get_or c.reached_from_first-reached.result n false ≡ true) (omega arith) (c.loop-place.invariant (v - 1) place)))

pub returns-then-not-reached-from : goal.returns-then-not-reached-from
returns-then-not-reached-from c =
    let reached = c.reached_from_first-reached.result in
    yes_is (unreached_breaks c.args.lists.now reached (c.loop-place.place + 1) c.reached_from_first-reached.ensures (omega arith) (omega (arith, c.count-place-end.ensures.count)) (subst (λ (p : ℕ). get_or reached (p + 1) false ≡ false) c.from.ensures c.if-not-reached-from.true))
