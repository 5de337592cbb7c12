use Rattle.min_cost_flow.proofs.Paths.{no_flow_without_path}
use Rattle.min_cost_flow.proofs.solution.no_path_shows_no_flow.Goals as goal

pub returns : goal.returns
returns c net x e u = no_flow_without_path net x e u
