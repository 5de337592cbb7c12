use Rattle.std.proofs.Common.{rules}
use Rattle.ruled_lanes.proofs.Fans.{gives}
use Rattle.ruled_lanes.proofs.fan_channel.LaneGiver.wait_and_give.Goals as goal

pub send_as-requires-clause-rule : goal.send_as-requires-clause-rule
send_as-requires-clause-rule g c = (gives _ _ _ _ _ c.args.self.now.role (search rules), λ _ _ _ _. tt)
