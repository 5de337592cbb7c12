-- The entry of an answered record.
use Rattle.std.specs.Prelude.{ℕ, List}
use Rattle.planar_code.specs.Stream.{lists_of}
use Rattle.common.specs.declared.parameters.Choice.{Choice}
use Rattle.reports.specs.Answers.{Answers}
use Rattle.reports.specs.declared.answer.Answer.{Answer}
use Rattle.reports.specs.declared.answer.Entry.{Entry}

-- the record with these bytes at this place of this file, and its answer
abbrev pub entry_of : (file ordinal : ℕ) (bytes : List ℕ) (choice : Choice) (answer : Answer) → ∥ Answers choice (lists_of bytes) answer ∥₁ → Entry
entry_of file ordinal bytes choice answer answers =
    record { file = file; ordinal = ordinal; rec = bytes; choice = choice; answer = answer; answers = answers }
