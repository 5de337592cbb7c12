use Rattle.std.proofs.Common.{ap}
use Rattle.ruled_lanes.proofs.Links.{merges}
use Rattle.ruled_lanes.proofs.link_channel.Taker.settle.Goals as goal

pub absorb-requires-clause-rule : goal.absorb-requires-clause-rule
absorb-requires-clause-rule g c = merges _ _ _ _ (ap (λ v. v.gives) c.args.giver.role) (ap (λ v. v.takes) c.args.self.role)
