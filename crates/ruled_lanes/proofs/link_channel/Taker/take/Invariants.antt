use Rattle.std.proofs.Common.{◌≡◌}
use Rattle.ruled_lanes.specs.LinkEnds.{taken, TakesFromSame}
use Rattle.ruled_lanes.proofs.link_channel.Taker.take.Given as goal

abbrev pub invariant-loop-tried : goal.invariant-loop-tried
invariant-loop-tried g l = record {
  link : TakesFromSame l.fn.self l.self;
  none : taken l.self ≡ taken l.fn.self;
}
