use Rattle.std.proofs.Common.{sym, ◌∙◌, inl}
use Rattle.file_order.proofs.SucceedsOrFails.{ok_both, err_then, err_any}
use Rattle.collector.proofs.Adding.{written_more}
use Rattle.collector.proofs.Partial.{partial_more, partial_written}
use Rattle.collector.proofs.texts.Lines.add_out_of_memory_line.Goals as goal

pub returns-clause-added : goal.returns-clause-added
returns-clause-added g c =
    let self = c.args.self.now in
    ok_both c.add.result c.add.ensures.goes_on c.add.ensures.kept (λ goes kept start before after entry of_it at lacks more was.
    written_more self.form start (g.S.Sink.taken c.args.sink.now) (g.S.Sink.taken c.add.new.sink) self.order c.add.new.self c.args.file before after entry c.as_slice.result.now
    c.requires.below c.requires.from (sym (c.as_slice.ensures.value ∙ c.in_ok-text.ensures entry of_it at lacks)) more c.add.ensures.same goes kept was)

pub returns-clause-partial : goal.returns-clause-partial
returns-clause-partial g c =
    let self = c.args.self.now in
    err_then c.add.result c.add.ensures.partial (λ partial start before after entry of_it at lacks more was.
    partial_more self.form start (g.S.Sink.taken c.args.sink.now) (g.S.Sink.taken c.add.new.sink) self.order c.args.file before after entry c.as_slice.result.now
    c.requires.below (sym (c.as_slice.ensures.value ∙ c.in_ok-text.ensures entry of_it at lacks)) more partial was)

pub returns-in_err-text-clause-partial : goal.returns-in_err-text-clause-partial
returns-in_err-text-clause-partial g c =
    let self = c.args.self.now in
    err_any c.from_residual.result (λ start before after entry of_it at lacks more was.
    inl (partial_written self.form start (g.S.Sink.taken c.args.sink.now) self.order.buffer self.order.current self.order.waiting before was))
