use Rattle.min_cost_flow.proofs.Duality.{least_by_potentials}
use Rattle.min_cost_flow.proofs.solution.potentials_show_least_cost.Goals as goal

pub returns : goal.returns
returns c net x p = least_by_potentials net x p
