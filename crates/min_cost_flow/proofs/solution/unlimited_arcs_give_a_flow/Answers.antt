use Rattle.min_cost_flow.proofs.Existence.{flow_where_joined}
use Rattle.min_cost_flow.proofs.solution.unlimited_arcs_give_a_flow.Goals as goal

pub returns : goal.returns
returns c net x e = flow_where_joined net x e
