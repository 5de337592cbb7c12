use Rattle.std.proofs.Common.{◌≡◌, length, All}
use Rattle.crossbeam_channel.specs.Claims.{view, IsSeatAt}
use Rattle.crossbeam_channel.specs.Ends.{sends_on}
use Rattle.ruled_lanes.specs.FanEnds.{gathered}
use Rattle.ruled_lanes.proofs.Settling.{HasMerged}
use Rattle.ruled_lanes.proofs.fan_channel.Gatherer.settle.Given as goal

abbrev pub invariant-loop-giver : goal.invariant-loop-giver
invariant-loop-giver g l = record {
  seated : IsSeatAt (sends_on l.sender) l.pass;
  rest : All (λ g. sends_on l.sender ≡ sends_on g.sender) l.givers.items;
  merged : HasMerged (gathered l.fn.self) l.fn.givers.items l.givers.items (view l.pass);
}

abbrev pub decreases-loop-giver : goal.decreases-loop-giver
decreases-loop-giver g l = length l.givers.items
