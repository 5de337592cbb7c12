use Rattle.std.proofs.Common.{◌≡◌, ◌≤◌, ◌+◌, drop}
use Rattle.command_line.specs.Requests.{uses_from, uses_in}
use Rattle.command_line.proofs.reading.uses.Given as goal

abbrev pub invariant-loop-word : goal.invariant-loop-word
invariant-loop-word l = record {
  few : l.count ≤ l.word-index;
  counted : l.count + uses_from l.name l.role (drop l.word-index l.words) ≡ uses_in l.name l.words;
}
