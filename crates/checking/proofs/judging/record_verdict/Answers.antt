use Rattle.std.proofs.Common.{◌∙◌}
use Rattle.planar_code.specs.Stream.{lists_of}
use Rattle.checking.proofs.Judged.{on_lists}
use Rattle.checking.proofs.judging.record_verdict.Goals as goal

pub returns-clause-holds : goal.returns-clause-holds
returns-clause-holds c =
    on_lists c.args.faces (lists_of c.args.rec.now) _ c.args.input c.input_verdict-verdict.result (c.in-Ok-trace_in.ensures.graph ∙ c.in-Ok.ensures.lists) c.in-Ok-trace_in.ensures.plane c.input_verdict-verdict.ensures
