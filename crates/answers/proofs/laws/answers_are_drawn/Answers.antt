use Rattle.answers.proofs.DrawnAnswers.{answer_drawn}
use Rattle.answers.proofs.laws.answers_are_drawn.Goals as goal

pub returns : goal.returns
returns c = answer_drawn
