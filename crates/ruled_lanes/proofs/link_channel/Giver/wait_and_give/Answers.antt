use Rattle.std.proofs.Common.{ap}
use Rattle.ruled_lanes.proofs.Links.{gives}
use Rattle.ruled_lanes.proofs.link_channel.Giver.wait_and_give.Goals as goal

pub send_as-requires-clause-rule : goal.send_as-requires-clause-rule
send_as-requires-clause-rule g c = (gives _ _ _ _ (ap (λ v. v.gives) c.args.self.now.role), λ _ _ _ _. tt)
