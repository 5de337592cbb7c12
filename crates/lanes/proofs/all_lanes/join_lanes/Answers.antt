use Rattle.std.proofs.Common.{◌≡◌, length, vec_len, arith, subst}
use Rattle.std.specs.PromisedHandle.{KeepsEach}
use Rattle.lanes.proofs.RunningLanes.{kept_each}
use Rattle.lanes.proofs.all_lanes.join_lanes.Goals as goal

pub returns-in-Ok-clause-kept : goal.returns-in-Ok-clause-kept
returns-in-Ok-clause-kept g c =
    let handles = c.args.running.items in
    let ended = c.in-Ok.ended.items in
    let same : vec_len c.args.running ≡ length handles = omega arith in
    let many : length ended ≡ length handles = omega (arith, c.in-Ok.ensures.len) in
    kept_each _ handles ended many (subst (λ n. KeepsEach _ n handles ended) same c.in-Ok.ensures.each)
