use Rattle.std.proofs.Common.{length, ap, arith}
use Rattle.embedding.proofs.KeptFacts.{kept_as, sizes}
use Rattle.embedding.proofs.graphs.Graph.vertices.Goals as goal

pub returns-clause-some : goal.returns-clause-some
returns-clause-some c =
    let kept = kept_as _ _ c.self.view_is c.self.invariant in
    let all = sizes _ kept.rules kept.order in
    omega (arith, all.vertices, kept.size, ap length kept.heads_are)

pub returns-clause-few : goal.returns-clause-few
returns-clause-few c =
    let kept = kept_as _ _ c.self.view_is c.self.invariant in
    omega (arith, kept.order, kept.size, ap length kept.heads_are)
