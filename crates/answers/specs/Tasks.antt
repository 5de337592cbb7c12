-- Which record a task is of.
use Rattle.std.specs.Prelude.{ℕ, List}
use Rattle.lanes.specs.Notes.{About}
use Rattle.answers.specs.declared.item.Task.{Task}

-- the record of the task, which has these bytes
abbrev pub about_in : Task → List ℕ → About
about_in task bytes = record { file = task.file; ordinal = task.ordinal; bytes = bytes; choice = task.choice }
