use Rattle.std.proofs.Common.{sym, subst}
use Rattle.std.proofs.lemmas.Result.{err_from_is_err_and}
use Rattle.compact.specs.Monotone.{IsCompactFault}
use Rattle.compact.proofs.Placing.{x_fault, y_fault, least_of}
use Rattle.compact.proofs.axis.least_coordinates.Goals as goal

pub returns-in_err-x-clause-fault : goal.returns-in_err-x-clause-fault
returns-in_err-x-clause-fault c = let q = err_from_is_err_and c.from_residual.result c.from_residual.ensures.1 in rw (q.1, q.2) tt

pub returns-in_err-y-clause-fault : goal.returns-in_err-y-clause-fault
returns-in_err-y-clause-fault c = let q = err_from_is_err_and c.from_residual-in_err-y.result c.from_residual-in_err-y.ensures.1 in rw (q.1, q.2) tt

pub returns-in_err-least_x-clause-fault : goal.returns-in_err-least_x-clause-fault
returns-in_err-least_x-clause-fault c =
    let q = err_from_is_err_and c.from_residual-in_err-least_x.result c.from_residual-in_err-least_x.ensures.1 in
    rw q.1 (subst (IsCompactFault c.args.boxes.now) (sym q.2) (x_fault c.args.boxes.now c.in_err-least_x.field-0.0 c.in_err-least_x.ensures.fault))

pub returns-in_err-least_y-clause-fault : goal.returns-in_err-least_y-clause-fault
returns-in_err-least_y-clause-fault c =
    let q = err_from_is_err_and c.from_residual-in_err-least_y.result c.from_residual-in_err-least_y.ensures.1 in
    rw q.1 (subst (IsCompactFault c.args.boxes.now) (sym q.2) (y_fault c.args.boxes.now c.in_err-least_y.field-0.0 c.in_err-least_y.ensures.fault))

pub returns-then-are_along-clause-x : goal.returns-then-are_along-clause-x
returns-then-are_along-clause-x c =
    let told = c.are_along.ensures in
    least_of c.args.boxes.now 0 c.in_ok-x.x.items c.deref.result.now c.deref.ensures.value
    (told.x_along c.if-are_along.true) c.in_ok-x.ensures.under told.x_small c.in_ok-x.ensures.count
