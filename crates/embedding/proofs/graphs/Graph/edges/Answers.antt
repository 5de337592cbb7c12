use Rattle.std.proofs.Common.{length, ap, arith}
use Rattle.embedding.proofs.KeptFacts.{kept_as, sizes}
use Rattle.embedding.proofs.graphs.Graph.edges.Goals as goal

pub overflow_cast-result : goal.overflow_cast-result
overflow_cast-result c =
    let kept = kept_as _ _ c.self.view_is c.self.invariant in
    let all = sizes _ kept.rules kept.order in
    let size = ap length kept.heads_are in
    omega arith

pub returns-clause-count : goal.returns-clause-count
returns-clause-count c =
    let kept = kept_as _ _ c.self.view_is c.self.invariant in
    let all = sizes _ kept.rules kept.order in
    let size = ap length kept.heads_are in
    omega arith

pub returns-clause-some : goal.returns-clause-some
returns-clause-some c =
    let kept = kept_as _ _ c.self.view_is c.self.invariant in
    let all = sizes _ kept.rules kept.order in
    let size = ap length kept.heads_are in
    omega arith

pub returns-clause-few : goal.returns-clause-few
returns-clause-few c =
    let kept = kept_as _ _ c.self.view_is c.self.invariant in
    let all = sizes _ kept.rules kept.order in
    let size = ap length kept.heads_are in
    omega arith
