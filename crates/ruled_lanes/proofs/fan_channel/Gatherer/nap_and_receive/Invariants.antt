use Rattle.std.proofs.Common.{◌≡◌, ◌≤◌}
use Rattle.ruled_lanes.specs.FanEnds.{gathered, TakesFromSameFan}
use Rattle.ruled_lanes.proofs.fan_channel.Gatherer.nap_and_receive.Given as goal

abbrev pub invariant-loop-patience : goal.invariant-loop-patience
invariant-loop-patience g l = record {
  fan : TakesFromSameFan l.fn.self l.self;
  none : gathered l.self ≡ gathered l.fn.self;
  patience : l.patience ≤ l.initial.patience;
}

abbrev pub decreases-loop-patience : goal.decreases-loop-patience
decreases-loop-patience g l = l.patience
