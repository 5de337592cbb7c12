use Rattle.collector.proofs.Books.{drawn_books}
use Rattle.collector.proofs.run.run_plain.Goals as goal

pub returns-in-Ok-clause-drawn : goal.returns-in-Ok-clause-drawn
returns-in-Ok-clause-drawn g c = drawn_books c.args.choice (g.O.Opener.meaning c.args.opener.now) 0 c.in-Ok.batch c.in-Ok.ensures.each
