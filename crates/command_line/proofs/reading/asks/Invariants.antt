use Rattle.std.proofs.Common.{◌≡◌, drop}
use Rattle.command_line.specs.Requests.{asks_from, asks_in}
use Rattle.command_line.proofs.reading.asks.Given as goal

abbrev pub invariant-loop-word : goal.invariant-loop-word
invariant-loop-word l = asks_from l.keyword l.role (drop l.word-index l.words) ≡ asks_in l.keyword l.words
