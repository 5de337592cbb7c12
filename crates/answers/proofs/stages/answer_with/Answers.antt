use Rattle.std.proofs.Common.{ℕ, List, subst}
use Rattle.answers.specs.Steps.{IsShaped, IsLeastPlane}
use Rattle.embedding.specs.Rules.{KeepsBefore}
use Rattle.answers.proofs.stages.answer_with.Goals as goal

pub returns-in-Err-clause-memory : goal.returns-in-Err-clause-memory
returns-in-Err-clause-memory c choice g shaped _ =
    let known : IsLeastPlane choice g c.in-Ok.shaped_plane = subst (IsShaped choice g) c.in-Ok.is shaped in
    subst (λ (lists : List (List ℕ)). KeepsBefore lists 9) known.lists known.rules.rules
