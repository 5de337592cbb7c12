use Rattle.std.proofs.Common.{refl, arith}
use Rattle.std.specs.Ordering.{nat_cmp}
use Rattle.std.specs.BTreeMap.{get}
use Rattle.std.proofs.lemmas.Bool.{false≢true}
use Rattle.geometry.proofs.Holdings.{none_there, is_update, IsSwept-more, met_not_apart, AllPairs-swept}
use Rattle.geometry.proofs.plane_sweep.sweep_with_dictionary.Goals as goal

pub returns-then-not-remove_ended : goal.returns-then-not-remove_ended
returns-then-not-remove_ended c =
    let filled = c.requires.filled c.loop-rectangle.rectangle-index none_there c.loop-rectangle-test.true in (
      λ none. absurd (false≢true none),
      λ apart. absurd (met_not_apart _ _ _ c.loop-rectangle.invariant (omega arith) c.requires.ordered filled c.if-not-remove_ended.ensures.met apart),
    )

pub loop-rectangle-preserved : goal.loop-rectangle-preserved
loop-rectangle-preserved c =
    let filled = c.requires.filled c.loop-rectangle.rectangle-index none_there c.loop-rectangle-test.true in
    IsSwept-more _ (get nat_cmp c.remove_ended.new.active) _ _ _ c.loop-rectangle.invariant (omega arith) c.requires.ordered filled c.remove_ended.ensures.clears c.if-not-remove_ended.ensures.free (is_update c.remove_ended.new.active c.insert.new.self _ _ c.in_ok-insert.ensures.updates)

pub returns : goal.returns
returns c = (λ _. AllPairs-swept _ c.args.rectangles.now _ c.loop-rectangle.invariant (omega arith), λ _. refl)
