use Rattle.std.proofs.Common.{rules}
use Rattle.ruled_lanes.proofs.Fans.{gives}
use Rattle.ruled_lanes.proofs.fan_channel.LaneGiver.give.Goals as goal

pub try_send_as-requires-clause-rule : goal.try_send_as-requires-clause-rule
try_send_as-requires-clause-rule g c = (gives _ _ _ _ _ c.loop-tried.self.role (search rules), λ _ _ _ _. tt)
