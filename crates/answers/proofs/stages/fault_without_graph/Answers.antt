use Rattle.std.proofs.Common.{Option, subst}
use Rattle.std.specs.Prelude.{MatchOption}
use Rattle.embedding.specs.declared.breaks.Rule.{Rule}
use Rattle.embedding.specs.Rules.{FirstBroken, KeepsBefore}
use Rattle.answers.proofs.stages.fault_without_graph.Goals as goal

pub returns-in-Some : goal.returns-in-Some
returns-in-Some c g known =
    subst (λ (broken : Option Rule). MatchOption broken (KeepsBefore g 9) (λ rule. FirstBroken g rule)) c.in-Some.is known

pub returns-in-None : goal.returns-in-None
returns-in-None c g known =
    subst (λ (broken : Option Rule). MatchOption broken (KeepsBefore g 9) (λ rule. FirstBroken g rule)) c.in-None.is known
