use Rattle.std.proofs.Common.{◌∙◌, arith, refl}
use Rattle.std.proofs.lemmas.Bool.{false≢true}
use Rattle.std.proofs.lemmas.List.{take_at}
use Rattle.geometry.proofs.Holdings.{none_there}
use Rattle.geometry.proofs.Frontiers.{IsFrontier-more, reached_not_apart, AllPairs-frontier}
use Rattle.geometry.proofs.plane_sweep.sweep_with_table.Goals as goal

pub returns-then-not-move_past : goal.returns-then-not-move_past
returns-then-not-move_past c =
    let filled = c.requires.filled c.loop-rectangle.rectangle-index none_there c.loop-rectangle-test.true in (
      λ none. absurd (false≢true none),
      λ apart. absurd (reached_not_apart _ _ _ c.loop-rectangle.invariant (omega arith) c.requires.ordered filled (rw c.deref_mut.ensures.value at c.if-not-move_past.ensures.reaches) apart),
    )

pub loop-rectangle-preserved : goal.loop-rectangle-preserved
loop-rectangle-preserved c =
    let filled = c.requires.filled c.loop-rectangle.rectangle-index none_there c.loop-rectangle-test.true in
    rw (take_at c.move_past.new.frontier _ _ (c.move_past.auto.frontier ∙ c.deref_mut.ensures.len)) (IsFrontier-more _ _ _ _ c.loop-rectangle.invariant filled (rw c.deref_mut.ensures.value at c.if-not-move_past.ensures.passes))

pub returns : goal.returns
returns c = (λ _. AllPairs-frontier _ c.args.rectangles.now _ c.loop-rectangle.invariant (omega arith), λ _. refl)
