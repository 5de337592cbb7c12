use Rattle.std.proofs.Common.{rules}
use Rattle.ruled_lanes.proofs.Links.{begins, forks}
use Rattle.ruled_lanes.proofs.channel.link.Goals as goal

pub bounded_with-requires-clause-rule : goal.bounded_with-requires-clause-rule
bounded_with-requires-clause-rule g c = begins

pub another-takes-requires-clause-rule : goal.another-takes-requires-clause-rule
another-takes-requires-clause-rule g c = forks _ _ (search rules) (search rules)
