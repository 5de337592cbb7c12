use Rattle.std.proofs.Common.{subst, sym}
use Rattle.std.proofs.lemmas.Result.{err_from_is_err_and}
use Rattle.conditions.specs.Chosen.{IsKeepFault}
use Rattle.conditions.proofs.Kept.{asked_moved, fault_told}
use Rattle.conditions.proofs.chosen.shape_keeping_in.Goals as goal

pub returns-in_err-by_darts-clause-fault : goal.returns-in_err-by_darts-clause-fault
returns-in_err-by_darts-clause-fault c =
    let q = err_from_is_err_and c.from_residual.result c.from_residual.ensures.1 in
    rw q.1 (subst (IsKeepFault c.args.conditions.now c.args.choice c.args.plane.now) (sym q.2) (c.in_err-by_darts.ensures.fault c.args.choice))

pub returns-in-Ok-clause-kept : goal.returns-in-Ok-clause-kept
returns-in-Ok-clause-kept c =
    let by_darts = c.in_ok-by_darts.by_darts in
    let found = c.in-Ok.ensures in
    record {
      given = by_darts.given;
      barred = by_darts.barred;
      asked = asked_moved c.args.plane.now c.chosen_shape.new.plane c.args.conditions.now by_darts.given by_darts.barred c.chosen_shape.ensures.outer_moved c.in_ok-by_darts.ensures.asked;
      chosen = found.chosen;
      shape_is = found.shape;
      least = found.least;
      proof = found.proof;
    }

pub returns-in-Err-Infeasible-clause-fault : goal.returns-in-Err-Infeasible-clause-fault
returns-in-Err-Infeasible-clause-fault c =
    let by_darts = c.in_ok-by_darts.by_darts in
    fault_told c.args.plane.now c.chosen_shape.new.plane c.args.conditions.now c.args.choice by_darts.given by_darts.barred by_darts.greatest c.no_shape_fault.result
    c.chosen_shape.ensures.outer_moved c.in_ok-by_darts.ensures.asked c.in_ok-by_darts.ensures.greatest (c.in-Err-Infeasible.ensures.none c.in-Err-Infeasible.field-0-is) c.no_shape_fault.ensures.shown
