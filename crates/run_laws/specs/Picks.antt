-- Books of facts for which memory sufficed.
use Rattle.std.specs.Prelude.{◌≢◌, None, All}
use Rattle.planar_code.specs.declared.partial_record.Ending.{Ending}
use Rattle.streams.specs.declared.frames.Mark.{Mark}
use Rattle.collector.specs.FactBooks.{FactBook}

-- memory ran out neither for the file nor for one of its records
pub record HasAllFacts (book : FactBook) : Type 0 where
  pub mark : book.mark ≢ Mark.Ended Ending.Memory
  pub facts : All (λ entry. entry.facts ≢ None) book.entries
