use Rattle.answers.proofs.Remaining.{remaining, remaining_of_least, remaining_in_laid}
use Rattle.answers.proofs.laws.remaining_causes.Goals as goal

pub returns : goal.returns
returns c = record { vertices = remaining; least = remaining_of_least; laid = remaining_in_laid }
