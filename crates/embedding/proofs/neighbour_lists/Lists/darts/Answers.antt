use Rattle.std.proofs.Common.{arith}
use Rattle.embedding.proofs.Places.{entries_are}
use Rattle.embedding.proofs.neighbour_lists.Lists.darts.Goals as goal

pub overflow_sub-result : goal.overflow_sub-result
overflow_sub-result c =
    let sizes = entries_are _ _ _ c.self.invariant c.args.self.now c.self.view_is in
    omega (arith, sizes.0, c.from.ensures)

pub returns-clause-count : goal.returns-clause-count
returns-clause-count c =
    let sizes = entries_are _ _ _ c.self.invariant c.args.self.now c.self.view_is in
    omega (arith, sizes.0, c.from.ensures)

pub returns-clause-few : goal.returns-clause-few
returns-clause-few c =
    let sizes = entries_are _ _ _ c.self.invariant c.args.self.now c.self.view_is in
    omega (arith, sizes.0, sizes.1, c.from.ensures)
