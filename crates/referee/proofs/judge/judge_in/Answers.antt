use Rattle.std.proofs.Common.{◌≡◌, ◌∙◌, ℕ, sym, subst}
use Rattle.std.proofs.lemmas.Bool.{iff_false}
use Rattle.std.proofs.lemmas.Result.{err_from_is_err_and}
use Rattle.faces.specs.Planes.{PlaneModel}
use Rattle.ortho_rep.specs.Representation.{IsShape}
use Rattle.drawing_check.specs.Faults.{IsFirstFault}
use Rattle.referee.proofs.NoDrawing.{none_by_counts, none_by_grid, none_by_axes, none_by_turns, none_by_disorder, none_by_outer, none_by_shape, none_by_fault}
use Rattle.referee.specs.Faults.{IsFirstFailure}
use Rattle.referee.proofs.FirstOfShapes.{lines_of, first_disorder, first_no_outer, no_outer_but, meets_by_fault}
use Rattle.referee.proofs.judge.judge_in.Goals as goal

pub returns-in_err-check_counts-clause-refused : goal.returns-in_err-check_counts-clause-refused
returns-in_err-check_counts-clause-refused c = let p = err_from_is_err_and c.from_residual.result c.from_residual.ensures.1 in rw p.1 (λ _. none_by_counts c.args.plane.now c.args.points c.in_err-check_counts.ensures.refused)

pub returns-in_err-check_grid-clause-refused : goal.returns-in_err-check_grid-clause-refused
returns-in_err-check_grid-clause-refused c = let p = err_from_is_err_and c.from_residual-in_err-check_grid.result c.from_residual-in_err-check_grid.ensures.1 in rw p.1 (λ _. none_by_grid c.args.plane.now c.args.points c.in_err-check_grid.ensures.refused)

pub returns-in_err-check_axes-clause-refused : goal.returns-in_err-check_axes-clause-refused
returns-in_err-check_axes-clause-refused c = let p = err_from_is_err_and c.from_residual-in_err-check_axes.result c.from_residual-in_err-check_axes.ensures.1 in rw p.1 (λ _. none_by_axes c.args.plane.now c.args.points c.in_err-check_axes.ensures.refused)

pub returns-in_err-shape-clause-refused : goal.returns-in_err-shape-clause-refused
returns-in_err-shape-clause-refused c = let p = err_from_is_err_and c.from_residual-in_err-shape.result c.from_residual-in_err-shape.ensures.1 in rw p.1 (λ some. none_by_turns c.args.plane.now c.args.points (c.in_err-shape.ensures.refused (λ m. some (p.2 ∙ m))))

pub returns-in_err-check_angle_sums-clause-refused : goal.returns-in_err-check_angle_sums-clause-refused
returns-in_err-check_angle_sums-clause-refused c = let p = err_from_is_err_and c.from_residual-in_err-check_angle_sums.result c.from_residual-in_err-check_angle_sums.ensures.1 in rw p.1 (λ _.
    none_by_disorder c.args.plane.now c.args.points c.in_ok-shape.shape _ c.graph-graph.ensures.ends c.in_ok-shape.ensures.taken c.in_err-check_angle_sums.ensures.first)

pub returns-in_err-outer-clause-refused : goal.returns-in_err-outer-clause-refused
returns-in_err-outer-clause-refused c = let p = err_from_is_err_and c.from_residual-in_err-outer.result c.from_residual-in_err-outer.ensures.1 in rw p.1 (λ _.
    none_by_outer c.args.plane.now c.args.points c.in_ok-shape.shape c.graph-graph.ensures.ends c.in_ok-shape.ensures.taken c.in_err-outer.ensures.none)

pub returns-then-not-is_shape-clause-refused : goal.returns-then-not-is_shape-clause-refused
returns-then-not-is_shape-clause-refused c = λ _.
    none_by_shape c.args.plane.now c.args.points c.in_ok-shape.shape c.in_ok-outer.outer c.graph-graph.ensures.ends c.in_ok-shape.ensures.taken c.in_ok-outer.ensures.named c.in_ok-outer.ensures.turns
    (λ is. iff_false c.is_shape.ensures c.if-not-is_shape.true (subst (λ (q : PlaneModel). IsShape q c.in_ok-shape.shape) (sym c.set_outer.ensures) is))

pub returns-in-Err-clause-refused : goal.returns-in-Err-clause-refused
returns-in-Err-clause-refused c = λ some.
    none_by_fault c.args.plane.now c.in_ok-outer.outer c.args.points c.in_ok-shape.shape c.in-Err.fault c.in_ok-shape.ensures.taken (c.fault_of_check.ensures.real some)
    (subst (λ (q : PlaneModel). IsFirstFault q c.in_ok-shape.shape c.args.points c.in-Err.fault) c.set_outer.ensures c.in-Err.ensures.refused.fault)

pub returns-in_err-check_counts-clause-first : goal.returns-in_err-check_counts-clause-first
returns-in_err-check_counts-clause-first c =
    let q = err_from_is_err_and c.from_residual.result c.from_residual.ensures.1 in
    rw q.1 (λ some. subst (IsFirstFailure c.args.plane.now c.args.points) (sym q.2) c.in_err-check_counts.ensures.first)

pub returns-in_err-check_grid-clause-first : goal.returns-in_err-check_grid-clause-first
returns-in_err-check_grid-clause-first c =
    let q = err_from_is_err_and c.from_residual-in_err-check_grid.result c.from_residual-in_err-check_grid.ensures.1 in
    rw q.1 (λ some. subst (IsFirstFailure c.args.plane.now c.args.points) (sym q.2) c.in_err-check_grid.ensures.first)

pub returns-in_err-check_axes-clause-first : goal.returns-in_err-check_axes-clause-first
returns-in_err-check_axes-clause-first c =
    let q = err_from_is_err_and c.from_residual-in_err-check_axes.result c.from_residual-in_err-check_axes.ensures.1 in
    rw q.1 (λ some. subst (IsFirstFailure c.args.plane.now c.args.points) (sym q.2) (c.in_err-check_axes.ensures.first c.in_ok-check_grid.ensures.inside))

pub returns-in_err-shape-clause-first : goal.returns-in_err-shape-clause-first
returns-in_err-shape-clause-first c =
    let q = err_from_is_err_and c.from_residual-in_err-shape.result c.from_residual-in_err-shape.ensures.1 in
    rw q.1 (λ some. subst (IsFirstFailure c.args.plane.now c.args.points) (sym q.2) (c.in_err-shape.ensures.first (λ m. some (q.2 ∙ m)) (lines_of c.in_ok-check_counts.ensures.whole c.in_ok-check_grid.ensures.inside c.in_ok-check_axes.ensures.on_axes)))

pub returns-in_err-check_angle_sums-clause-first : goal.returns-in_err-check_angle_sums-clause-first
returns-in_err-check_angle_sums-clause-first c =
    let q = err_from_is_err_and c.from_residual-in_err-check_angle_sums.result c.from_residual-in_err-check_angle_sums.ensures.1 in
    rw q.1 (λ some. subst (IsFirstFailure c.args.plane.now c.args.points) (sym q.2) (first_disorder c.args.plane.now c.args.points c.in_ok-shape.shape _ (lines_of c.in_ok-check_counts.ensures.whole c.in_ok-check_grid.ensures.inside c.in_ok-check_axes.ensures.on_axes) c.in_ok-shape.ensures.taken c.in_err-check_angle_sums.ensures.first))

pub returns-in_err-outer-clause-first : goal.returns-in_err-outer-clause-first
returns-in_err-outer-clause-first c =
    let q = err_from_is_err_and c.from_residual-in_err-outer.result c.from_residual-in_err-outer.ensures.1 in
    rw q.1 (λ some. subst (IsFirstFailure c.args.plane.now c.args.points) (sym q.2) (first_no_outer c.args.plane.now c.args.points c.in_ok-shape.shape _ (lines_of c.in_ok-check_counts.ensures.whole c.in_ok-check_grid.ensures.inside c.in_ok-check_axes.ensures.on_axes) c.in_ok-shape.ensures.taken c.in_ok-check_angle_sums.ensures.ordered c.in_err-outer.ensures.kind c.in_err-outer.ensures.none))

pub returns-then-not-is_shape-clause-first : goal.returns-then-not-is_shape-clause-first
returns-then-not-is_shape-clause-first c = λ some.
    no_outer_but c.args.plane.now c.args.points c.in_ok-shape.shape c.in_ok-outer.outer (lines_of c.in_ok-check_counts.ensures.whole c.in_ok-check_grid.ensures.inside c.in_ok-check_axes.ensures.on_axes)
    c.in_ok-shape.ensures.taken c.in_ok-check_angle_sums.ensures.ordered c.in_ok-outer.ensures.named c.in_ok-outer.ensures.turns
    (λ is. iff_false c.is_shape.ensures c.if-not-is_shape.true (subst (λ (q : PlaneModel). IsShape q c.in_ok-shape.shape) (sym c.set_outer.ensures) is))

pub returns-in-Err-clause-first : goal.returns-in-Err-clause-first
returns-in-Err-clause-first c = λ some.
    let p = c.args.plane.now in
    let shape = c.in_ok-shape.shape in
    let outer = c.in_ok-outer.outer in
    let is = subst (λ (q : PlaneModel). IsShape q shape) c.set_outer.ensures (c.is_shape.ensures.0 c.if-not-is_shape.false) in
    subst (IsFirstFailure p c.args.points) (sym (c.fault_of_check.ensures.kind some))
    (meets_by_fault p outer c.args.points shape c.in-Err.fault (lines_of c.in_ok-check_counts.ensures.whole c.in_ok-check_grid.ensures.inside c.in_ok-check_axes.ensures.on_axes)
    c.in_ok-shape.ensures.taken c.in_ok-outer.ensures.named is (c.fault_of_check.ensures.real some)
    (subst (λ (q : PlaneModel). IsFirstFault q shape c.args.points c.in-Err.fault) c.set_outer.ensures c.in-Err.ensures.refused.fault))
