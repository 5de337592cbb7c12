-- The numbers by which C knows what comes of a call.
use Rattle.std.specs.Prelude.{ℕ}
use Rattle.embedding.specs.Rules.{rule_number}
use Rattle.planarbend_c.specs.declared.request.Outcome.{Outcome}
use Rattle.planarbend_c.specs.declared.request.Outcome.TheVariants.{Laid, Refused, NotARecord, Memory, Room, Argument, NoShape, NoEdge, NoOuter, Wide, Large, Conflict}

abbrev pub code_of : Outcome → ℕ
code_of Laid = 0
-- rules are numbered from 1 to 8
code_of (Refused rule) = rule_number rule
code_of NotARecord = 9
code_of Memory = 10
code_of Room = 11
code_of Argument = 12
code_of NoShape = 13
code_of NoEdge = 14
code_of NoOuter = 15
code_of Wide = 16
code_of Large = 17
code_of Conflict = 18
