use Rattle.std.proofs.Common.{below_more, refl, arith, rules}
use Rattle.least_length.proofs.certificate.is_order_kept.Goals as goal

pub loop-place-preserved : goal.loop-place-preserved
loop-place-preserved c = below_more _ _ c.loop-place.invariant (c.keeps_order.ensures.0 (search rules))

pub returns : goal.returns
returns c = (λ _ r s b d o. c.loop-place.invariant r (omega arith) s d o, λ _. refl)
