use Rattle.min_cost_flow.proofs.Links.{flipped}
use Rattle.min_cost_flow.proofs.residual_network.reverse.Goals as goal

pub returns : goal.returns
returns c = flipped c.args.number
