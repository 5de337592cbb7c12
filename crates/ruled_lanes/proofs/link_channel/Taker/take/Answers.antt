use Rattle.std.proofs.Common.{ap}
use Rattle.ruled_lanes.proofs.Links.{takes}
use Rattle.ruled_lanes.proofs.link_channel.Taker.take.Goals as goal

pub try_recv_as-requires-clause-rule : goal.try_recv_as-requires-clause-rule
try_recv_as-requires-clause-rule g c = (takes _ _ (ap (λ v. v.takes) c.loop-tried.self.role), λ _ _ _ _. tt)
