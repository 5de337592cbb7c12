use Rattle.answers.proofs.kept.RecordScratch.shape.Goals as goal

pub returns-clause-shaped : goal.returns-clause-shaped
returns-clause-shaped c = c.shape.ensures.shaped

pub returns-clause-least : goal.returns-clause-least
returns-clause-least c = c.shape.ensures.least
