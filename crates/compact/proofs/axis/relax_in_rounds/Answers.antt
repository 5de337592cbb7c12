use Rattle.std.proofs.Common.{◌∙◌, arith}
use Rattle.compact.proofs.axis.relax_in_rounds.Goals as goal

pub returns-in-Satisfied-clause-least : goal.returns-in-Satisfied-clause-least
returns-in-Satisfied-clause-least c = λ _ y keeps v v_in. c.in-Satisfied.ensures.low y keeps v (omega (arith, v_in, c.rounds.invariant.size))

pub rounds-preserved : goal.rounds-preserved
rounds-preserved c = record {
  size = c.in-Raised.ensures.length ∙ c.rounds.invariant.size;
  low = λ y keeps v v_in. c.in-Raised.ensures.low y keeps v (omega (arith, v_in, c.rounds.invariant.size));
}

pub relax_all-requires-clause-low : goal.relax_all-requires-clause-low
relax_all-requires-clause-low c = λ y keeps v v_in. c.rounds.invariant.low y keeps v (omega (arith, v_in, c.rounds.invariant.size))
