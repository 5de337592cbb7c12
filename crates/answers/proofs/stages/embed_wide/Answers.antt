use Rattle.std.proofs.Common.{List, ℕ, subst}
use Rattle.answers.specs.Steps.{IsEmbedded}
use Rattle.answers.proofs.stages.embed_wide.Goals as goal

pub returns-in-Ok : goal.returns-in-Ok
returns-in-Ok c = subst (λ (g : List (List ℕ)). IsEmbedded g c.trace.result) c.in-Ok.ensures.lists c.trace.ensures
