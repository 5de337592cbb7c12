use Rattle.std.proofs.Common.{◌<◌, length, arith}
use Rattle.checking.proofs.Parts.{no_turns}
use Rattle.checking.proofs.claims.turns_of_letters.Goals as goal

pub returns-in-None-clause-none : goal.returns-in-None-clause-none
returns-in-None-clause-none c = λ memory turns said.
    let below : c.loop-letter.letter-index < length c.args.letters.now = omega arith in
    no_turns c.args.letters.now c.loop-letter.letter-index below c.in-None.ensures.none turns said
