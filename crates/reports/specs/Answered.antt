-- What an answer guarantees without its graph.
use Rattle.std.specs.Prelude.{ℕ, List}
use Rattle.common.specs.declared.parameters.Choice.{Choice}
use Rattle.reports.specs.Answers.{Answers}
use Rattle.reports.specs.declared.answer.Answer.{Answer}

-- the answer is right for some graph under some choice
abbrev pub IsAnswer : Answer → Type 0
IsAnswer answer = ∥ ((choice : Choice) × (g : List (List ℕ)) × Answers choice g answer) ∥₁
