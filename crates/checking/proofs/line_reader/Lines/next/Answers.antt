use Rattle.std.proofs.Common.{subst}
use Rattle.checking.specs.Lines.{HasGiven, rest_in, fails_in}
use Rattle.checking.proofs.line_reader.Lines.next.Goals as goal

pub returns-in-Open-clause-gives : goal.returns-in-Open-clause-gives
returns-in-Open-clause-gives g c = λ known fails given has. c.read_on.ensures known fails given (subst (λ s. HasGiven known fails s (rest_in g.T.Tap.to_come c.args.self.now) (fails_in g.T.Tap.fails c.args.self.now) given) c.in-Open.is has)

pub returns-in-Ended-clause-gives : goal.returns-in-Ended-clause-gives
returns-in-Ended-clause-gives g c = λ known fails given has. (c.in-Ended.is, subst (λ s. HasGiven known fails s (rest_in g.T.Tap.to_come c.args.self.now) (fails_in g.T.Tap.fails c.args.self.now) given) c.in-Ended.is has)

pub returns-in-Failed-clause-gives : goal.returns-in-Failed-clause-gives
returns-in-Failed-clause-gives g c = λ known fails given has. (c.in-Failed.is, subst (λ s. HasGiven known fails s (rest_in g.T.Tap.to_come c.args.self.now) (fails_in g.T.Tap.fails c.args.self.now) given) c.in-Failed.is has)
