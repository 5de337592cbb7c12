use Rattle.std.proofs.Common.{sym, subst}
use Rattle.std.proofs.lemmas.Result.{err_from_is_err_and}
use Rattle.common.specs.Slices.{slices_at}
use Rattle.compact.specs.Monotone.{IsCompactFault}
use Rattle.compact.proofs.Placing.{least_points}
use Rattle.compact.proofs.points.compact_in.Goals as goal

pub returns-clause-least : goal.returns-clause-least
returns-clause-least c =
    let told = c.in_ok-x.ensures in
    let listed = c.in_ok-corners in
    rw (c.in_ok-points.ensures, c.deref-6.ensures.value, c.deref-7.ensures.value)
    (least_points c.args.boxes.now c.in_ok-x.x.items c.in_ok-x.y.items c.deref-4.result.now c.deref-5.result.now c.deref-2.result.now c.deref-3.result.now
    c.in_ok-vertices.vertices.items (slices_at listed.starts.items listed.corners.items) c.deref-4.ensures.value c.deref-5.ensures.value c.deref-2.ensures.value c.deref-3.ensures.value
    told.sound told.x.along told.y.along told.x.least told.y.least told.x.within told.y.within
    c.in_ok-vertices.ensures listed.ensures.count listed.ensures.corners)

pub returns-in_err-around-clause-fault : goal.returns-in_err-around-clause-fault
returns-in_err-around-clause-fault c = let q = err_from_is_err_and c.from_residual.result c.from_residual.ensures.1 in rw (q.1, q.2) tt

pub returns-in_err-corners-clause-fault : goal.returns-in_err-corners-clause-fault
returns-in_err-corners-clause-fault c = let q = err_from_is_err_and c.from_residual-in_err-corners.result c.from_residual-in_err-corners.ensures.1 in rw (q.1, q.2) tt

pub returns-in_err-vertices-clause-fault : goal.returns-in_err-vertices-clause-fault
returns-in_err-vertices-clause-fault c = let q = err_from_is_err_and c.from_residual-in_err-vertices.result c.from_residual-in_err-vertices.ensures.1 in rw (q.1, q.2) tt

pub returns-in_err-points-clause-fault : goal.returns-in_err-points-clause-fault
returns-in_err-points-clause-fault c = let q = err_from_is_err_and c.from_residual-in_err-points.result c.from_residual-in_err-points.ensures.1 in rw (q.1, q.2) tt

pub returns-in_err-x-clause-fault : goal.returns-in_err-x-clause-fault
returns-in_err-x-clause-fault c =
    let q = err_from_is_err_and c.from_residual-in_err-x.result c.from_residual-in_err-x.ensures.1 in
    rw q.1 (subst (IsCompactFault c.args.boxes.now) (sym q.2) c.in_err-x.ensures.fault)
