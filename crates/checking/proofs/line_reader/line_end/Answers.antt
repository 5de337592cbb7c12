use Rattle.std.proofs.Common.{◌≢◌, take, get_or, arith, subst, sym}
use Rattle.std.proofs.lemmas.List.{take_all, take_more}
use Rattle.std.proofs.lemmas.List.Elements.{All-push}
use Rattle.checking.specs.Lines.{IsNoEnd}
use Rattle.checking.proofs.line_reader.line_end.Goals as goal

pub loop-i-preserved : goal.loop-i-preserved
loop-i-preserved c =
    subst IsNoEnd (sym (take_more c.args.bytes.now c.loop-i.i 0 c.loop-i-test.true))
    (All-push (λ b. b ≢ 10) (take c.loop-i.i c.args.bytes.now) (get_or c.args.bytes.now c.loop-i.i 0) c.loop-i.invariant c.if-byte-eq10.false)

pub returns-clause-none : goal.returns-clause-none
returns-clause-none c = subst IsNoEnd (take_all c.loop-i.i c.args.bytes.now (omega (arith, c.loop-i-test.false))) c.loop-i.invariant
