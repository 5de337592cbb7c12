use Rattle.answers.proofs.DrawnAnswers.{none_shown}
use Rattle.answers.proofs.laws.no_cause_is_shown.Goals as goal

pub returns : goal.returns
returns c = none_shown
