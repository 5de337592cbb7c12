use Rattle.std.proofs.Common.{◌≡◌, ◌*◌, ◌<◌, ℕ, List, length, [], All, ap, subst, sym, arith}
use Rattle.std.proofs.lemmas.List.{get_or_default}
use Rattle.embedding.specs.Darts.{dart_count}
use Rattle.faces.specs.Planes.{darts}
use Rattle.ortho_rep.specs.declared.grid_points.Point.{Point}
use Rattle.drawing_check.specs.Draws.{IsInGrid}
use Rattle.std.proofs.lemmas.Result.{err_from_is_err_and}
use Rattle.referee.specs.Faults.{IsCornerFault, IsFirstFailure}
use Rattle.referee.specs.declared.judge.Fault.{Fault}
use Rattle.referee.proofs.FirstFaults.{first_outside}
use Rattle.referee.proofs.conditions.check_corners.Goals as goal

pub returns-clause-inside : goal.returns-clause-inside
returns-clause-inside c =
    let corners : List (List Point) = c.args.points.now.corners in
    λ k d lt. subst (All IsInGrid) (get_or_default corners k [] d lt) (c.loop-edge.invariant k (omega (arith, lt, ap dart_count c.graph.ensures.value)))

pub returns-in_err-check_edge_corners-clause-first : goal.returns-in_err-check_edge_corners-clause-first
returns-in_err-check_edge_corners-clause-first c =
    let points = c.args.points.now in
    let edge = c.loop-edge.edge in
    let q = err_from_is_err_and c.from_residual.result c.from_residual.ensures.1 in
    rw q.1 (subst (λ (fault : Fault). All IsInGrid points.vertices → IsFirstFailure c.args.plane.now points fault) (sym q.2)
    (first_outside c.args.plane.now points edge _ c.requires c.loop-edge.invariant
    (subst (λ (cs : List Point). IsCornerFault cs edge c.in_err-check_edge_corners.field-0.0) c.corners.ensures c.in_err-check_edge_corners.ensures.first)))
