use Rattle.std.proofs.Common.{ap}
use Rattle.ruled_lanes.proofs.Links.{gives}
use Rattle.ruled_lanes.proofs.link_channel.Giver.give.Goals as goal

pub try_send_as-requires-clause-rule : goal.try_send_as-requires-clause-rule
try_send_as-requires-clause-rule g c = (gives _ _ _ _ (ap (λ v. v.gives) c.loop-tried.self.role), λ _ _ _ _. tt)
