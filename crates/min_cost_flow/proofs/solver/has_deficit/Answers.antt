use Rattle.std.proofs.Common.{rules}
use Rattle.min_cost_flow.proofs.solver.has_deficit.Goals as goal

pub returns-clause-some : goal.returns-clause-some
returns-clause-some c = search rules
