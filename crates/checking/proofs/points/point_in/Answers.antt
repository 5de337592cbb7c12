use Rattle.serde_json.specs.View.{view}
use Rattle.std.proofs.Common.{sym, subst, ◌∙◌, arith}
use Rattle.std.proofs.lemmas.Result.{err_from_is_err_and}
use Rattle.checking.specs.Wrong.{IsWrongPoint}
use Rattle.checking.proofs.Parts.{is_no_pair}
use Rattle.checking.proofs.Wrong.{no_pair, bad_coordinate}
use Rattle.checking.proofs.points.point_in.Goals as goal

pub returns-then-coordinates-ne2-clause-none : goal.returns-then-coordinates-ne2-clause-none
returns-then-coordinates-ne2-clause-none c = λ point short said.
    is_no_pair c.in_ok-coordinates.coordinates.now (view c.args.value.now) c.in_ok-coordinates.ensures.ok c.if-coordinates-ne2.true point said

pub returns-then-coordinates-ne2-clause-fault : goal.returns-then-coordinates-ne2-clause-fault
returns-then-coordinates-ne2-clause-fault c =
    no_pair c.in_ok-coordinates.coordinates.now (view c.args.value.now) c.in_ok-coordinates.ensures.ok c.if-coordinates-ne2.true

pub returns-in_err-x-clause-fault : goal.returns-in_err-x-clause-fault
returns-in_err-x-clause-fault c =
    let q = err_from_is_err_and c.from_residual-in_err-x.result c.from_residual-in_err-x.ensures.1 in
    rw q.1 (subst (IsWrongPoint (view c.args.value.now)) (sym (q.2 ∙ c.in_err-x.ensures.fault))
    (bad_coordinate c.in_ok-coordinates.coordinates.now (view c.args.value.now) 0 c.index-coordinates-0.result c.in_ok-coordinates.ensures.ok c.if-coordinates-ne2.false (omega arith)
    c.index-coordinates-0.is (λ n low. c.in_err-x.ensures.none n (omega (arith, low)))))

pub returns-in_err-y-clause-fault : goal.returns-in_err-y-clause-fault
returns-in_err-y-clause-fault c =
    let q = err_from_is_err_and c.from_residual-in_err-y.result c.from_residual-in_err-y.ensures.1 in
    rw q.1 (subst (IsWrongPoint (view c.args.value.now)) (sym (q.2 ∙ c.in_err-y.ensures.fault))
    (bad_coordinate c.in_ok-coordinates.coordinates.now (view c.args.value.now) 1 c.index-coordinates-1.result c.in_ok-coordinates.ensures.ok c.if-coordinates-ne2.false (omega arith)
    c.index-coordinates-1.is (λ n low. c.in_err-y.ensures.none n (omega (arith, low)))))
