-- Books and answers that do not say that memory ran out.
use Rattle.std.proofs.Common.{◌≢◌, ℕ, List, All}
use Rattle.planar_code.specs.declared.partial_record.Ending.TheVariants as ending
use Rattle.streams.specs.declared.frames.Mark.TheVariants.{Ended}
use Rattle.embedding.specs.Rules.{FirstBroken}
use Rattle.common.specs.declared.parameters.Choice.{Choice}
use Rattle.reports.specs.declared.answer.Answer.{Answer}
use Rattle.reports.specs.declared.answer.Answer.TheVariants.{Laid, Refused, NoMemory}
use Rattle.reports.specs.Answers.{IsLaid}
use Rattle.reports.specs.Books.{BookModel}

-- the answer decides the graph with these neighbour lists
abbrev pub IsDecided : Choice → List (List ℕ) → Answer → Type 0
IsDecided choice g (Laid plane shape prices drawing) = IsLaid choice g plane shape prices drawing
IsDecided choice g (Refused rule) = FirstBroken g rule
IsDecided choice g NoMemory = ⊥

-- neither its mark nor an answer says that memory ran out
pub record HasMemory (book : BookModel) : Type 0 where
  pub mark : book.mark ≢ Ended ending.Memory
  pub answers : All (λ entry. entry.answer ≢ NoMemory) book.entries
