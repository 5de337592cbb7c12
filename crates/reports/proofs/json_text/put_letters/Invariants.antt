use Rattle.std.proofs.Common.{◌≡◌, ◌++◌, map, take}
use Rattle.reports.specs.LineData.{letter_of}
use Rattle.reports.proofs.json_text.put_letters.Given as goal

abbrev pub invariant-loop-turn : goal.invariant-loop-turn
invariant-loop-turn l = l.out.items ≡ l.initial.out.items ++ map letter_of (take l.turn-index l.turns)
