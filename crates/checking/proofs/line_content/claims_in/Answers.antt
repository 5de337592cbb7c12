use Rattle.std.proofs.Common.{sym, subst, ◌∙◌}
use Rattle.std.proofs.lemmas.Result.{err_from_is_err_and}
use Rattle.serde_json.specs.View.{view}
use Rattle.checking.specs.LineContents.{IsWrongClaim, wrong_angles, wrong_turns, wrong_prices, wrong_bends, wrong_outer}
use Rattle.checking.proofs.line_content.claims_in.Goals as goal

pub returns-in_err-angles_in-clause-fault : goal.returns-in_err-angles_in-clause-fault
returns-in_err-angles_in-clause-fault c =
    let q = err_from_is_err_and c.from_residual.result c.from_residual.ensures.1 in
    rw q.1 (λ memory. subst (IsWrongClaim (view c.args.value.now)) (sym q.2)
    (wrong_angles (c.in_err-angles_in.ensures.fault (λ m. memory (q.2 ∙ m)))))

pub returns-in_err-turns_in-clause-fault : goal.returns-in_err-turns_in-clause-fault
returns-in_err-turns_in-clause-fault c =
    let q = err_from_is_err_and c.from_residual-in_err-turns_in.result c.from_residual-in_err-turns_in.ensures.1 in
    rw q.1 (λ memory. subst (IsWrongClaim (view c.args.value.now)) (sym q.2)
    (wrong_turns (c.in_ok-angles_in.field-0, c.in_ok-angles_in.ensures.ok) (c.in_err-turns_in.ensures.fault (λ m. memory (q.2 ∙ m)))))

pub returns-in_err-prices_in-clause-fault : goal.returns-in_err-prices_in-clause-fault
returns-in_err-prices_in-clause-fault c =
    let q = err_from_is_err_and c.from_residual-in_err-prices_in.result c.from_residual-in_err-prices_in.ensures.1 in
    rw q.1 (λ memory. subst (IsWrongClaim (view c.args.value.now)) (sym q.2)
    (wrong_prices (c.in_ok-angles_in.field-0, c.in_ok-angles_in.ensures.ok) (c.in_ok-turns_in.field-0, c.in_ok-turns_in.ensures.ok) (c.in_err-prices_in.ensures.fault (λ m. memory (q.2 ∙ m)))))

pub returns-in_err-bends_in-clause-fault : goal.returns-in_err-bends_in-clause-fault
returns-in_err-bends_in-clause-fault c =
    let q = err_from_is_err_and c.from_residual-in_err-bends_in.result c.from_residual-in_err-bends_in.ensures.1 in
    rw q.1 (λ memory. subst (IsWrongClaim (view c.args.value.now)) (sym q.2)
    (wrong_bends (c.in_ok-angles_in.field-0, c.in_ok-angles_in.ensures.ok) (c.in_ok-turns_in.field-0, c.in_ok-turns_in.ensures.ok) (c.in_ok-prices_in.field-0, c.in_ok-prices_in.ensures.ok) (c.in_err-bends_in.ensures.fault, c.in_err-bends_in.ensures.made, c.in_err-bends_in.ensures.none)))

pub returns-in_err-outer_in-clause-fault : goal.returns-in_err-outer_in-clause-fault
returns-in_err-outer_in-clause-fault c =
    let q = err_from_is_err_and c.from_residual-in_err-outer_in.result c.from_residual-in_err-outer_in.ensures.1 in
    rw q.1 (λ memory. subst (IsWrongClaim (view c.args.value.now)) (sym q.2)
    (wrong_outer (c.in_ok-angles_in.field-0, c.in_ok-angles_in.ensures.ok) (c.in_ok-turns_in.field-0, c.in_ok-turns_in.ensures.ok) (c.in_ok-prices_in.field-0, c.in_ok-prices_in.ensures.ok) (c.in_ok-bends_in.field-0, c.in_ok-bends_in.ensures.ok) (c.in_err-outer_in.ensures.fault, c.in_err-outer_in.ensures.made, c.in_err-outer_in.ensures.none)))
