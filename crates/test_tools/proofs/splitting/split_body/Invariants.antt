use Rattle.std.proofs.Common.{length}
use Rattle.planar_code.specs.Plain.{HasSplit}
use Rattle.test_tools.proofs.splitting.split_body.Given as goal

abbrev pub invariant-loop-rest : goal.invariant-loop-rest
invariant-loop-rest l = HasSplit l.fn.body l.records.items l.rest

abbrev pub decreases-loop-rest : goal.decreases-loop-rest
decreases-loop-rest l = length l.rest
