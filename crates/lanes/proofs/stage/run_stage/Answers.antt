use Rattle.std.proofs.Common.{sym, ◌∙◌}
use Rattle.lanes.proofs.stage.run_stage.Goals as goal

pub returns : goal.returns
returns g c = record {
  from_same = c.in_ok-taker.ensures.same_link;
  to_same = c.tell.ensures.stays ∙ c.run_until_stop.ensures.stays;
  passed = record { same = c.in_ok-tell.ensures.more ∙ sym c.in_ok-taker.ensures.told; stopped = (_, c.in_ok-taker.ensures.told, c.run_until_stop.ensures.goes_on) };
}
