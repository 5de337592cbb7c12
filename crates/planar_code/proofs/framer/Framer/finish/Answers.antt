-- After a fault the stream ends as the fault says.
use Rattle.std.proofs.Common.{sym, ap, subst, ◌∙◌}
use Rattle.planar_code.specs.FramerState.{StandsAt}
use Rattle.planar_code.specs.Split.{IsSplit}
use Rattle.planar_code.specs.Framer.{framer_state_at}
use Rattle.planar_code.proofs.Feeding.{split-failed}
use Rattle.planar_code.proofs.framer.Framer.finish.Goals as goal

pub returns-clause-split : goal.returns-clause-split
returns-clause-split c = λ stream records s.
    let f = c.self.inside in
    let state = sym c.self.view_is ∙ ap (λ z. framer_state_at z f.records f.current) c.in-Failed.is in
    subst (IsSplit stream records) (sym c.from.ensures) (split-failed stream records c.in-Failed.fault (subst (StandsAt stream records) state s))
