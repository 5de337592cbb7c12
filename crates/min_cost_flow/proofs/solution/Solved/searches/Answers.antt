use Rattle.std.proofs.Common.{ap}
use Rattle.min_cost_flow.specs.Flow.{SolvedModel}
use Rattle.min_cost_flow.proofs.solution.Solved.searches.Goals as goal

pub returns : goal.returns
returns c = ap (λ (s : SolvedModel). s.searches) c.self.view_is
