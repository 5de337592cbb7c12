use Rattle.answers.proofs.WideOnly.{shown_wide, laid_wide}
use Rattle.answers.proofs.laws.only_wide.Goals as goal

pub returns : goal.returns
returns c = record { shown = shown_wide; laid = laid_wide }
