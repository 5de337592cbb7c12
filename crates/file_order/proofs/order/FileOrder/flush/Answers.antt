use Rattle.file_order.proofs.Refusals.{flush_failed, tells_refused}
use Rattle.file_order.proofs.order.FileOrder.flush.Goals as goal

pub returns-in_err-flush-clause-stands : goal.returns-in_err-flush-clause-stands
returns-in_err-flush-clause-stands g c =
    (tells_refused _ c.in_err-flush.field-0.0 _ (flush_failed _ _ _ _ _ c.in_err-flush.ensures.writes) c.from_residual.ensures.1).0

pub returns-in_err-flush-clause-refused : goal.returns-in_err-flush-clause-refused
returns-in_err-flush-clause-refused g c =
    (tells_refused _ c.in_err-flush.field-0.0 _ (flush_failed _ _ _ _ _ c.in_err-flush.ensures.writes) c.from_residual.ensures.1).1
