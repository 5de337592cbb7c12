use Rattle.std.proofs.Common.{refl, sym, subst, ◌∙◌}
use Rattle.std.proofs.lemmas.Result.{err_from_is_err_and}
use Rattle.serde_json.specs.Find.{as_object}
use Rattle.serde_json.specs.View.{view}
use Rattle.checking.proofs.Fields.{none_of, some_of}
use Rattle.checking.specs.LineContents.{IsWrongValue, no_object, no_points, no_claims}
use Rattle.checking.proofs.line_content.drawing_in.Goals as goal

pub returns-in_err-points-clause-none : goal.returns-in_err-points-clause-none
returns-in_err-points-clause-none c =
    let q = err_from_is_err_and c.from_residual.result c.from_residual.ensures.1 in
    rw q.1 (λ real points claims fits has. c.in_err-points.ensures.none (λ m. real (q.2 ∙ m)) points fits.short has.points_are)

pub returns-then-not-is_object-clause-fault : goal.returns-then-not-is_object-clause-fault
returns-then-not-is_object-clause-fault c = λ memory. no_object (none_of (as_object (view c.args.value.now)) (sym c.is_object.ensures ∙ c.if-not-is_object.true)) refl

pub returns-in_err-points-clause-fault : goal.returns-in_err-points-clause-fault
returns-in_err-points-clause-fault c =
    let q = err_from_is_err_and c.from_residual.result c.from_residual.ensures.1 in
    rw q.1 (λ memory. subst (IsWrongValue (view c.args.value.now)) (sym q.2)
    (no_points (some_of (as_object (view c.args.value.now)) (sym c.is_object.ensures ∙ c.if-not-is_object.false)) (c.in_err-points.ensures.fault (λ m. memory (q.2 ∙ m)))))

pub returns-in_err-claims-clause-fault : goal.returns-in_err-claims-clause-fault
returns-in_err-claims-clause-fault c =
    let q = err_from_is_err_and c.from_residual-in_err-claims.result c.from_residual-in_err-claims.ensures.1 in
    rw q.1 (λ memory. subst (IsWrongValue (view c.args.value.now)) (sym q.2)
    (no_claims (some_of (as_object (view c.args.value.now)) (sym c.is_object.ensures ∙ c.if-not-is_object.false)) (c.in_ok-points.points, c.in_ok-points.ensures.short, c.in_ok-points.ensures.ok) (c.in_err-claims.ensures.fault (λ m. memory (q.2 ∙ m)))))
