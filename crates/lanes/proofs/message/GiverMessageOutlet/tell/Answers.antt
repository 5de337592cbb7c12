use Rattle.lanes.proofs.Passing.{notes-after}
use Rattle.lanes.proofs.message.GiverMessageOutlet.tell.Goals as goal

pub returns-clause-more : goal.returns-clause-more
returns-clause-more g c = notes-after g.T.Numbered.about _ _ c.args.message c.in_ok-give.ensures.ok
