use Rattle.min_cost_flow.proofs.OverfullSets.{overfull_has_no_flow}
use Rattle.min_cost_flow.proofs.solution.overfull_shows_no_flow.Goals as goal

pub returns : goal.returns
returns c net s = overfull_has_no_flow net s
