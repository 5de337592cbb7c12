use Rattle.ruled_lanes.specs.LinkEnds.{taken, TakesFromSame}
use Rattle.collector.specs.ReadMessage.{Gathers}
use Rattle.collector.proofs.frames_run.gather.Given as goal

abbrev pub invariant-loop : goal.invariant-loop
invariant-loop g l = TakesFromSame l.fn.taker l.taker × Gathers l.records.items l.mark (taken l.taker)
