use Rattle.std.proofs.Common.{ap}
use Rattle.ruled_lanes.proofs.Fans.{takes}
use Rattle.ruled_lanes.proofs.fan_channel.Gatherer.try_receive.Goals as goal

pub try_recv_as-requires-clause-rule : goal.try_recv_as-requires-clause-rule
try_recv_as-requires-clause-rule g c = (takes _ _ (ap (λ v. v.takes) c.args.self.now.role), λ _ _ _ _. tt)
