use Rattle.std.proofs.Common.{sym, arith}
use Rattle.min_cost_flow.specs.Overfull.{is_in, was_reached}
use Rattle.min_cost_flow.proofs.OverfullSets.{overfull_same}
use Rattle.min_cost_flow.proofs.solution.overfull_in.Goals as goal

pub returns-clause-size : goal.returns-clause-size
returns-clause-size c = omega (arith, c.in_ok-marks_of_reached.ensures.size, c.solve.ensures.visits, c.deref.ensures.len)

pub returns-clause-overfull : goal.returns-clause-overfull
returns-clause-overfull c flat =
    let net = c.args.network.now in
    let visits = c.solve.new.self.visits.items in
    let each = rw c.deref.ensures.value at c.in_ok-marks_of_reached.ensures.each in
    overfull_same net (was_reached visits) (is_in c.in_ok-marks_of_reached.field-0.items) c.in_ok-prepare.ensures.network.ends
    (λ v b. sym (each v (omega (arith, b, c.solve.ensures.visits))))
    (c.solve.ensures.overfull c.if-solve.false flat)
