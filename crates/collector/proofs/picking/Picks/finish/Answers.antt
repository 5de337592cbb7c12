use Rattle.std.proofs.Common.{refl}
use Rattle.file_order.proofs.SucceedsOrFails.{err_any}
use Rattle.collector.proofs.PicksFinishing.{all_picked}
use Rattle.collector.proofs.PicksHeld.{left_off_flushed}
use Rattle.collector.proofs.picking.Picks.finish.Goals as goal

pub returns-clause-written : goal.returns-clause-written
returns-clause-written g c = λ start choice known meaning ns held have.
    all_picked choice meaning known start (g.S.Sink.taken c.args.sink.now) (g.S.Sink.taken c.flush.new.sink) c.args.self ns have held c.in_ok-flush.ensures.put

pub returns-in_err-flush-clause-partial : goal.returns-in_err-flush-clause-partial
returns-in_err-flush-clause-partial g c =
    err_any c.from_residual.result (λ meaning start ns held.
    left_off_flushed meaning start (g.S.Sink.taken c.args.sink.now) (g.S.Sink.taken c.flush.new.sink) c.args.self c.args.self ns (record { selection = refl; choice = refl; files = refl }) c.in_err-flush.ensures.partial held)
