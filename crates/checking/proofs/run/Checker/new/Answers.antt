use Rattle.std.proofs.Common.{refl}
use Rattle.checking.proofs.Steps.{not_begun}
use Rattle.checking.proofs.run.Checker.new.Goals as goal

pub returns-clause-begins : goal.returns-clause-begins
returns-clause-begins g c = λ start. not_begun g.L.Tap.to_come g.L.Tap.fails _ _ start _ c.in_ok-new.ensures c.new-2.ensures refl refl
