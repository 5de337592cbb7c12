use Rattle.std.proofs.Common.{◌≡◌}
use Rattle.ruled_lanes.specs.FanEnds.{given_at, GivesToSameLane}
use Rattle.ruled_lanes.proofs.fan_channel.LaneGiver.give.Given as goal

abbrev pub invariant-loop-tried : goal.invariant-loop-tried
invariant-loop-tried g l = record {
  lane : GivesToSameLane l.fn.self l.self;
  none : given_at l.self ≡ given_at l.fn.self;
  item : l.held ≡ l.fn.item;
}
