use Rattle.std.proofs.Common.{◌≡◌, ◌≤◌}
use Rattle.ruled_lanes.specs.FanEnds.{gathered, TakesFromSameFan}
use Rattle.ruled_lanes.proofs.fan_channel.Gatherer.take_within.Given as goal

abbrev pub invariant-loop-tried : goal.invariant-loop-tried
invariant-loop-tried g l = record {
  fan : TakesFromSameFan l.fn.self l.self;
  none : gathered l.self ≡ gathered l.fn.self;
  patience : l.patience ≤ l.fn.patience;
}
