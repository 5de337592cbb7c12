use Rattle.answers.proofs.DrawnAnswers.{no_cause, drawn}
use Rattle.answers.proofs.laws.laid_answers_are_drawn.Goals as goal

pub returns : goal.returns
returns c = record { cause = no_cause; points = drawn }
