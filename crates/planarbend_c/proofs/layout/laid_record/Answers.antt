use Rattle.std.proofs.Common.{subst, sym}
use Rattle.std.proofs.lemmas.Result.{err_from_is_err_and}
use Rattle.planarbend_c.specs.Sources.{parsed_lists}
use Rattle.planarbend_c.specs.Faults.{IsFault}
use Rattle.planarbend_c.proofs.layout.laid_record.Goals as goal

pub returns-in_err-laid-clause-found : goal.returns-in_err-laid-clause-found
returns-in_err-laid-clause-found c = let p = err_from_is_err_and c.from_residual.result c.from_residual.ensures.1 in rw p.1 tt

pub returns-in_err-laid-clause-asked : goal.returns-in_err-laid-clause-asked
returns-in_err-laid-clause-asked c = let p = err_from_is_err_and c.from_residual.result c.from_residual.ensures.1 in rw p.1 tt

pub returns-in_err-laid-clause-fault : goal.returns-in_err-laid-clause-fault
returns-in_err-laid-clause-fault c =
    let p = err_from_is_err_and c.from_residual.result c.from_residual.ensures.1 in
    rw (p.1, p.2) c.in_err-laid.ensures.fault

pub returns-in_err-drawing-clause-found : goal.returns-in_err-drawing-clause-found
returns-in_err-drawing-clause-found c = let p = err_from_is_err_and c.from_residual-in_err-drawing.result c.from_residual-in_err-drawing.ensures.1 in rw p.1 tt

pub returns-in_err-drawing-clause-asked : goal.returns-in_err-drawing-clause-asked
returns-in_err-drawing-clause-asked c = let p = err_from_is_err_and c.from_residual-in_err-drawing.result c.from_residual-in_err-drawing.ensures.1 in rw p.1 tt

pub returns-in_err-drawing-clause-fault : goal.returns-in_err-drawing-clause-fault
returns-in_err-drawing-clause-fault c =
    let p = err_from_is_err_and c.from_residual-in_err-drawing.result c.from_residual-in_err-drawing.ensures.1 in
    rw (p.1, p.2) (subst (IsFault (parsed_lists c.args.rec.now)) (sym c.in_err-drawing.ensures.fault) tt)

pub invariant_of-result : goal.invariant_of-result
invariant_of-result c = record { priced = c.in_ok-laid.ensures.shaped.proof.prices }

pub returns-clause-found : goal.returns-clause-found
returns-clause-found c =
    let laid = c.in_ok-laid.laid in
    let known = c.in_ok-laid.ensures.shaped in
    record {
      lists = known.lists;
      rules = known.rules;
      chosen = known.chosen;
      shape_is = laid.shape_is;
      least = known.least;
      proof = known.proof;
      drawn = c.in_ok-drawing.ensures.drawn;
      quick = c.in_ok-drawing.ensures.quick;
    }

pub returns-clause-asked : goal.returns-clause-asked
returns-clause-asked c = record {
  points = c.in_ok-drawing.ensures.asked;
  shape = c.in_ok-laid.ensures.kind;
}
