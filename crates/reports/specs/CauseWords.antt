-- The words that reports have for the causes.
use Rattle.std.specs.Prelude.{ℕ, List, codes}
use Rattle.reports.specs.declared.answer.Cause.{Cause}
use Rattle.reports.specs.declared.answer.Cause.TheVariants.{Wide, OutOfGrid, NotAxis, WrongTurn, Meet}

abbrev pub word_of : Cause → List ℕ
word_of Wide = codes "wide"
word_of OutOfGrid = codes "outofgrid"
word_of NotAxis = codes "notaxis"
word_of WrongTurn = codes "wrongturn"
word_of Meet = codes "meet"
