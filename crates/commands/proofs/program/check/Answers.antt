use Rattle.std.proofs.Common.{inr, refl}
use Rattle.std.proofs.lemmas.Result.{err_from_is_err_and}
use Rattle.commands.proofs.FaultStatus.{no_write, as_written}
use Rattle.commands.proofs.ReportBegun.{on_err}
use Rattle.commands.proofs.Verdicts.{verdicts_less, begun_verdicts_less}
use Rattle.commands.proofs.program.check.Goals as goal

pub returns-clause-written : goal.returns-clause-written
returns-clause-written g c =
    verdicts_less _ _ refl _ _ _ _ _ _ _ _ _ _
    c.in_ok-graphs.ensures.known c.in_ok-lines.ensures.known _ _ c.in_ok-checked.ensures.whole

pub returns-in_err-checked-clause-begun : goal.returns-in_err-checked-clause-begun
returns-in_err-checked-clause-begun g c =
    on_err c.from_residual-in_err-checked.result (inr (
    begun_verdicts_less _ _ refl _ _ _ _ _ _ _ _ _ _
    c.in_ok-graphs.ensures.known c.in_ok-lines.ensures.known c.in_err-checked.ensures.begun
    ))

pub returns-in_err-notes-clause-write : goal.returns-in_err-notes-clause-write
returns-in_err-notes-clause-write g c =
    let p = err_from_is_err_and c.from_residual.result c.from_residual.ensures.1 in
    no_write _ _ _ p.1 p.2 c.requires.out_is_intact

pub returns-in_err-graphs-clause-write : goal.returns-in_err-graphs-clause-write
returns-in_err-graphs-clause-write g c =
    let p = err_from_is_err_and c.from_residual-in_err-graphs.result c.from_residual-in_err-graphs.ensures.1 in
    no_write _ _ _ p.1 p.2 c.requires.out_is_intact

pub returns-in_err-lines-clause-write : goal.returns-in_err-lines-clause-write
returns-in_err-lines-clause-write g c =
    let p = err_from_is_err_and c.from_residual-in_err-lines.result c.from_residual-in_err-lines.ensures.1 in
    no_write _ _ _ p.1 p.2 c.requires.out_is_intact

pub returns-in_err-checked-clause-write : goal.returns-in_err-checked-clause-write
returns-in_err-checked-clause-write g c =
    let p = err_from_is_err_and c.from_residual-in_err-checked.result c.from_residual-in_err-checked.ensures.1 in
    as_written _ _ _ _ p.1 p.2 c.in_err-checked.ensures.fault
