use Rattle.std.proofs.Common.{◌+◌, vec_len, arith, sym, subst, ◌∙◌}
use Rattle.lanes.specs.Running.{AreNumbered, IsIdle}
use Rattle.lanes.proofs.RunningLanes.{new_idle, numbered_as, numbered_front, numbered_back}
use Rattle.lanes.proofs.all_lanes.new_fan.Goals as goal

pub returns-clause-givers : goal.returns-clause-givers
returns-clause-givers g c =
    let all : AreNumbered (IsIdle c.in_ok-givers.gatherer) 0 c.in_ok-givers.givers.items =
    new_idle _ 0 _ c.in_ok-givers.ensures.ends (λ k giver at. c.in_ok-givers.ensures.lanes.1 k giver at ∙ omega arith) c.in_ok-givers.ensures.unused.0 in
    subst (AreNumbered (IsIdle c.in_ok-givers.gatherer) 0) (sym c.in_ok-idle.ensures.items) (numbered_front _ 0 c.args.lanes c.in_ok-givers.givers.items all)

pub returns-clause-idle : goal.returns-clause-idle
returns-clause-idle g c =
    let all : AreNumbered (IsIdle c.in_ok-givers.gatherer) 0 c.in_ok-givers.givers.items =
    new_idle _ 0 _ c.in_ok-givers.ensures.ends (λ k giver at. c.in_ok-givers.ensures.lanes.1 k giver at ∙ omega arith) c.in_ok-givers.ensures.unused.0 in
    numbered_as (IsIdle c.in_ok-givers.gatherer) (0 + c.args.lanes) (vec_len c.split_off.new.self) _ _ (omega (arith, c.in_ok-idle.ensures.len)) (sym c.in_ok-idle.ensures.tail) (numbered_back _ 0 c.args.lanes c.in_ok-givers.givers.items all)
