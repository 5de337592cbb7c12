use Rattle.std.proofs.lemmas.Result.{IfOk-weaker}
use Rattle.file_order.proofs.SucceedsOrFails.{err_then}
use Rattle.collector.proofs.picking.Texts+S+Picks.finish.Goals as goal

pub returns-clause-written : goal.returns-clause-written
returns-clause-written g c =
    IfOk-weaker c.finish.result _ _ (λ flaws f choice known meaning ns. f (g.S.Sink.taken c.args.self.start.value) choice known meaning ns) c.finish.ensures.written

pub returns-clause-partial : goal.returns-clause-partial
returns-clause-partial g c = err_then c.finish.result c.finish.ensures.partial (λ partial meaning. partial meaning (g.S.Sink.taken c.args.self.start.value))
