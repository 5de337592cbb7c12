use Rattle.std.proofs.Common.{ap}
use Rattle.ruled_lanes.proofs.Links.{takes}
use Rattle.ruled_lanes.proofs.link_channel.Taker.wait_and_receive.Goals as goal

pub recv_as-requires-clause-rule : goal.recv_as-requires-clause-rule
recv_as-requires-clause-rule g c = (takes _ _ (ap (λ v. v.takes) c.args.self.now.role), λ _ _ _ _. tt)
