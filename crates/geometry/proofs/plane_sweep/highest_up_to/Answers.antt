use Rattle.std.proofs.Common.{rules}
use Rattle.std.proofs.lemmas.Map.Keys.{ge_from_not_lt}
use Rattle.geometry.proofs.plane_sweep.highest_up_to.Goals as goal

pub returns-clause-highest : goal.returns-clause-highest
returns-clause-highest c = λ k low held.
    ge_from_not_lt c.in_ok-bottom.bottom.now k ((c.range.ensures.in_range tt).4 _ _ c.in_ok-bottom.ensures.steps k (tt, search rules) held)
