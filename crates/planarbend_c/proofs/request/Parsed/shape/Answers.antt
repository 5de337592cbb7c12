use Rattle.planarbend_c.specs.Sources.{parsed_lists}
use Rattle.planarbend_c.proofs.request.Parsed.shape.Goals as goal

pub returns-clause-shaped : goal.returns-clause-shaped
returns-clause-shaped c = c.shape.ensures.shaped (parsed_lists c.args.self.now) c.embed-plane.ensures
