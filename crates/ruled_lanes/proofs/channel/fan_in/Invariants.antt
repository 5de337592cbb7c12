use Rattle.std.proofs.Common.{◌≡◌, ◌≤◌, [], length, All}
use Rattle.std.specs.Prelude.{vec_capacity}
use Rattle.crossbeam_channel.specs.Claims.{view, IsSeatAt}
use Rattle.crossbeam_channel.specs.Ends.{sends_on}
use Rattle.ruled_lanes.specs.declared.channel.TheConstants.{LANES}
use Rattle.ruled_lanes.specs.FanProtocol.{gatherer}
use Rattle.ruled_lanes.specs.FanEnds.{given_at, StandInOrder}
use Rattle.ruled_lanes.proofs.channel.fan_in.Given as goal

abbrev pub invariant-loop-lane : goal.invariant-loop-lane
invariant-loop-lane g l = record {
  room : LANES ≤ vec_capacity l.givers;
  many : length l.givers.items ≡ l.lane;
  seated : IsSeatAt (sends_on l.sender) l.pass;
  role : view l.pass ≡ gatherer l.lane [];
  fan : All (λ g. sends_on g.sender ≡ sends_on l.sender) l.givers.items;
  order : StandInOrder l.givers.items;
  unused : All (λ g. given_at g ≡ []) l.givers.items;
}
