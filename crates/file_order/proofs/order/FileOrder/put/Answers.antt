use Rattle.std.proofs.Common.{List, ℕ, subst}
use Rattle.file_order.specs.FileOrder.{OrderModel}
use Rattle.file_order.specs.Writing.{IsPartlyAdded}
use Rattle.file_order.proofs.SucceedsOrFails.{err_any}
use Rattle.file_order.proofs.Refusals.{partly_put, put_failed, tells_refused}
use Rattle.file_order.proofs.order.FileOrder.put.Goals as goal

pub returns-in_err-put-clause-partial : goal.returns-in_err-put-clause-partial
returns-in_err-put-clause-partial g c =
    let old = g.S.Sink.taken c.args.sink.now in
    let new = g.S.Sink.taken c.put.new.sink in
    err_any _ (subst (λ (o : OrderModel). IsPartlyAdded old o.buffer new c.args.text.now) c.self.view_is
    (subst (λ (b : List ℕ). IsPartlyAdded old b new c.args.text.now) c.deref_mut.ensures.value
    (partly_put old new _ c.put.new.self (g.S.Sink.failed c.put.new.sink) c.args.text.now c.in_err-put.field-0.0 c.in_err-put.ensures)))

pub returns-in_err-put-clause-stands : goal.returns-in_err-put-clause-stands
returns-in_err-put-clause-stands g c =
    (tells_refused _ c.in_err-put.field-0.0 _ (put_failed _ _ _ c.put.new.self _ _ _ c.in_err-put.ensures) c.from_residual.ensures.1).0

pub returns-in_err-put-clause-refused : goal.returns-in_err-put-clause-refused
returns-in_err-put-clause-refused g c =
    (tells_refused _ c.in_err-put.field-0.0 _ (put_failed _ _ _ c.put.new.self _ _ _ c.in_err-put.ensures) c.from_residual.ensures.1).1
