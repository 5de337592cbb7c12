use Rattle.std.proofs.Common.{◌≡◌}
use Rattle.ruled_lanes.specs.LinkEnds.{given, GivesToSame}
use Rattle.ruled_lanes.proofs.link_channel.Giver.give.Given as goal

abbrev pub invariant-loop-tried : goal.invariant-loop-tried
invariant-loop-tried g l = record {
  link : GivesToSame l.fn.self l.self;
  none : given l.self ≡ given l.fn.self;
  item : l.held ≡ l.fn.item;
}
