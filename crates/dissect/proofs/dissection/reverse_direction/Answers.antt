use Rattle.std.proofs.Common.{arith}
use Rattle.ortho_rep.proofs.TurnCounts.{lefts-add-rights}
use Rattle.dissect.proofs.dissection.reverse_direction.Goals as goal

pub returns-clause-turned : goal.returns-clause-turned
returns-clause-turned c =
    omega (arith, lefts-add-rights c.args.turns.now, c.count_lefts-lefts.ensures.count)
