use Rattle.std.proofs.Common.{◌∙◌}
use Rattle.embedding.proofs.graphs.Graph.tail.Goals as goal

pub returns-clause-value : goal.returns-clause-value
returns-clause-value c = c.head.ensures.value ∙ c.reverse.ensures.head
