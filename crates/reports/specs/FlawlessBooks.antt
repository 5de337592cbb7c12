-- The books that are flawless.
use Rattle.std.specs.Prelude.{◌≡◌, ◌≢◌, All}
use Rattle.planar_code.specs.declared.partial_record.Ending.{Ending}
use Rattle.streams.specs.declared.frames.Mark.{Mark}
use Rattle.reports.specs.declared.answer.Answer.{Answer}
use Rattle.reports.specs.Books.{BookModel}

-- the file ended complete, and each of its records has an answer, since memory did not run out
pub record IsFlawlessBook (book : BookModel) : Type 0 where
  pub complete : book.mark ≡ Mark.Ended Ending.Complete
  pub answered : All (λ entry. entry.answer ≢ Answer.NoMemory) book.entries
