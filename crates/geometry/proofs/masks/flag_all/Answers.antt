use Rattle.std.proofs.Common.{arith, refl}
use Rattle.std.proofs.lemmas.Bool.{false≢true}
use Rattle.geometry.proofs.Flagging.{one_more_flagged, met_not_apart, all_flagged}
use Rattle.geometry.proofs.masks.flag_all.Goals as goal

pub returns-then-not-flag : goal.returns-then-not-flag
returns-then-not-flag c = (
  λ none. absurd (false≢true none),
  λ apart. absurd (met_not_apart _ _ _ c.loop-rectangle.invariant (omega arith) c.if-not-flag.ensures.met apart),
)

pub loop-rectangle-preserved : goal.loop-rectangle-preserved
loop-rectangle-preserved c =
    one_more_flagged _ _ _ _ c.loop-rectangle.invariant c.if-not-flag.ensures.flags

pub returns : goal.returns
returns c = (λ _. all_flagged _ c.args.rectangles.now _ c.loop-rectangle.invariant (omega arith), λ _. refl)
