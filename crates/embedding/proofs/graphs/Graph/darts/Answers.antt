use Rattle.std.proofs.Common.{length, ap, arith}
use Rattle.embedding.proofs.KeptFacts.{kept_as, sizes}
use Rattle.embedding.proofs.Rotation.{reverse_involution, after_one, next_one}
use Rattle.embedding.proofs.graphs.Graph.darts.Goals as goal

pub overflow_cast-result : goal.overflow_cast-result
overflow_cast-result c =
    let kept = kept_as _ _ c.self.view_is c.self.invariant in
    let all = sizes _ kept.rules kept.order in
    let size = ap length kept.heads_are in
    omega arith

pub returns-clause-some : goal.returns-clause-some
returns-clause-some c =
    let kept = kept_as _ _ c.self.view_is c.self.invariant in
    let all = sizes _ kept.rules kept.order in
    let size = ap length kept.heads_are in
    omega arith

pub returns-clause-few : goal.returns-clause-few
returns-clause-few c =
    let kept = kept_as _ _ c.self.view_is c.self.invariant in
    let all = sizes _ kept.rules kept.order in
    let size = ap length kept.heads_are in
    omega arith

pub returns-clause-paired : goal.returns-clause-paired
returns-clause-paired c =
    let kept = kept_as _ _ c.self.view_is c.self.invariant in
    reverse_involution _ kept.rules

pub returns-clause-rotated : goal.returns-clause-rotated
returns-clause-rotated c =
    after_one c.args.self.now

pub returns-clause-walked : goal.returns-clause-walked
returns-clause-walked c =
    let kept = kept_as _ _ c.self.view_is c.self.invariant in
    next_one _ kept.rules
