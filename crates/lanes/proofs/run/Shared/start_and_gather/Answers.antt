use Rattle.std.proofs.Common.{◌≡◌, [], ◌∙◌, vec_len, arith, sym, subst, inr}
use Rattle.std.proofs.lemmas.Result.{err_from_is_err_and}
use Rattle.lanes.specs.Running.{AreNumbered, IsIdle}
use Rattle.lanes.proofs.RunningLanes.{all_started, idle_unused, numbered_weaker, running_still, idle_still, lanes_ended}
use Rattle.lanes.proofs.run.Shared.start_and_gather.Goals as goal

pub start_lanes-requires-clause-none_given : goal.start_lanes-requires-clause-none_given
start_lanes-requires-clause-none_given g c κs within = idle_unused c.args.fan.gatherer 0 c.args.fan.givers.items c.requires.0.ready

pub settle_lanes-requires-clause-ended : goal.settle_lanes-requires-clause-ended
settle_lanes-requires-clause-ended g c = λ κs within.
    let running = all_started (λ r. r.promise.giver.value) (λ r. r.promise.choice) (λ r. r.promise.opener.value) (λ r. r.promise.tickets.value) c.args.fan.gatherer _ _ _ 0 c.in-Ok.running.items
    (subst (AreNumbered (IsIdle c.args.fan.gatherer) 0) (sym c.in-Ok.ensures.givers) c.requires.0.ready) c.in-Ok.ensures.choice c.in-Ok.ensures.opener c.in-Ok.ensures.tickets in
    lanes_ended g.L.Entry.Numbered.about (λ r. r.promise.choice) (λ r. r.promise.opener.value) (λ r. r.promise.tickets.value) (λ r. r.promise.giver.value) (λ end. end.giver) (λ end. end.stop) (λ end. end.seat)
    g.O.Opener.meaning c.in_ok-gatherer.gatherer _ _ _ 0 c.in-Ok.running.items c.in_ok-ended.ended.items
    (numbered_weaker _ _ (λ lane r is. running_still c.args.fan.gatherer c.in_ok-gatherer.gatherer _ _ _ _ _ _ _ _ c.in_ok-gatherer.ensures.fan is) 0 c.in-Ok.running.items running)
    c.in_ok-ended.ensures.kept

pub settle_lanes-requires-clause-idle : goal.settle_lanes-requires-clause-idle
settle_lanes-requires-clause-idle g c = λ κs within.
    subst (λ n. AreNumbered (IsIdle c.in_ok-gatherer.gatherer) n c.args.fan.idle.items) (c.requires.0.each ∙ sym c.in-Ok.ensures.count ∙ sym c.in_ok-ended.ensures.count)
    (idle_still c.args.fan.gatherer c.in_ok-gatherer.gatherer (vec_len c.args.fan.givers) c.args.fan.idle.items c.in_ok-gatherer.ensures.fan c.requires.0.rest)

pub settle_lanes-requires-clause-stopped : goal.settle_lanes-requires-clause-stopped
settle_lanes-requires-clause-stopped g c = λ κs within lane below.
    c.in_ok-gatherer.ensures.stopped lane (omega (arith, below, c.len-lanes.ensures, c.requires.0.each, c.requires.0.lanes, c.in-Ok.ensures.count, c.in_ok-ended.ensures.count))

pub returns-in-Ok-settle_lanes : goal.returns-in-Ok-settle_lanes
returns-in-Ok-settle_lanes g c =
    let settled = c.in-Ok-settle_lanes.ensures in
    record {
      ended = (settled.count ∙ c.in_ok-ended.ensures.count ∙ c.in-Ok.ensures.count, settled.seats, (_, c.in_ok-gatherer.ensures.told, settled.told));
      stays = c.gather-taken.ensures.stays;
    }

pub returns-in-Err-settle_lanes : goal.returns-in-Err-settle_lanes
returns-in-Err-settle_lanes g c = record {
  ended = inr (c.of_any_consumer-in-Err-settle_lanes.ensures, (_, c.in_ok-gatherer.ensures.told));
  stays = c.gather-taken.ensures.stays;
}

pub returns-in-Err : goal.returns-in-Err
returns-in-Err g c = record {
  ended = inr (c.of_any_consumer.ensures, ([], c.requires.0.empty));
  stays = g.met.C.Consumer.stays_itself _;
}

pub returns-in_err-gatherer : goal.returns-in_err-gatherer
returns-in_err-gatherer g c =
    let p = err_from_is_err_and c.from_residual.result c.from_residual.ensures.1 in
    rw (p.1, p.2) (record { ended = c.in_err-gatherer.ensures.failed; stays = c.gather-taken.ensures.stays })

pub returns-in_err-ended : goal.returns-in_err-ended
returns-in_err-ended g c =
    let p = err_from_is_err_and c.from_residual-in_err-ended.result c.from_residual-in_err-ended.ensures.1 in
    rw (p.1, p.2) (record { ended = inr (c.in_err-ended.ensures.failed, (_, c.in_ok-gatherer.ensures.told)); stays = c.gather-taken.ensures.stays })
