use Rattle.std.proofs.Common.{rules}
use Rattle.collector.proofs.Messages.{took_records, took_end}
use Rattle.collector.proofs.frames_run.gather.Goals as goal

pub loop-preserved-in-Ok-Records : goal.loop-preserved-in-Ok-Records
loop-preserved-in-Ok-Records g c =
    (search rules, took_records _ _ _ _ _ _ _ c.loop.invariant.1 c.in-Ok-Records.ensures.ok c.in-Ok-Records.field-0-is (search rules))

pub loop-preserved : goal.loop-preserved
loop-preserved g c = (search rules, took_end _ _ _ _ _ _ c.loop.invariant.1 c.in-Ok-End.ensures.ok c.in-Ok-End.field-0-is)
