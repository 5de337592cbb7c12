use Rattle.std.proofs.Common.{◌≡◌, map, take}
use Rattle.checking.specs.Values.{letter_of}
use Rattle.checking.proofs.claims.turns_of_letters.Given as goal

abbrev pub invariant-loop-letter : goal.invariant-loop-letter
invariant-loop-letter l = take l.letter-index l.letters ≡ map letter_of l.turns.items
