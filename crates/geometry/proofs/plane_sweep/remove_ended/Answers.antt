use Rattle.std.proofs.Common.{None}
use Rattle.geometry.proofs.Holdings.{is_update, IsSweepDictionary-taken, Clears-taken}
use Rattle.geometry.proofs.plane_sweep.remove_ended.Goals as goal

pub loop-bottom-preserved : goal.loop-bottom-preserved
loop-bottom-preserved c =
    let out = is_update c.loop-bottom.active c.remove.new.self c.in-Some.bottom None c.remove.ensures.updates in (
      IsSweepDictionary-taken _ _ _ out c.loop-bottom.invariant.0,
      Clears-taken _ _ _ _ _ _ c.loop-bottom.invariant.1 c.in-Some.ensures.held c.if-new-found.false out,
    )
