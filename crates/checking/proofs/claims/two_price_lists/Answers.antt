use Rattle.std.proofs.Common.{sym, subst, ◌∙◌, inl, inr}
use Rattle.std.proofs.lemmas.Result.{err_from_is_err_and}
use Rattle.serde_json.specs.View.{view}
use Rattle.checking.specs.Wrong.{IsWrongPrices}
use Rattle.checking.proofs.claims.two_price_lists.Goals as goal

pub returns-in_err-faces-clause-none : goal.returns-in_err-faces-clause-none
returns-in_err-faces-clause-none c =
    let q = err_from_is_err_and c.from_residual-in_err-faces.result c.from_residual-in_err-faces.ensures.1 in
    rw q.1 (λ memory prices short has. c.in_err-faces.ensures.none (λ m. memory (q.2 ∙ m)) prices.faces short.faces has.faces)

pub returns-in_err-vertices-clause-fault : goal.returns-in_err-vertices-clause-fault
returns-in_err-vertices-clause-fault c =
    let q = err_from_is_err_and c.from_residual.result c.from_residual.ensures.1 in
    rw q.1 (λ memory. subst (IsWrongPrices (view c.args.field.now)) (sym q.2) (inl (c.in_err-vertices.ensures.fault (λ m. memory (q.2 ∙ m)))))

pub returns-in_err-faces-clause-fault : goal.returns-in_err-faces-clause-fault
returns-in_err-faces-clause-fault c =
    let q = err_from_is_err_and c.from_residual-in_err-faces.result c.from_residual-in_err-faces.ensures.1 in
    rw q.1 (λ memory. subst (IsWrongPrices (view c.args.field.now)) (sym q.2)
    (inr ((c.in_ok-vertices.vertices.items, c.in_ok-vertices.ensures.within, c.in_ok-vertices.ensures.ok), c.in_err-faces.ensures.fault (λ m. memory (q.2 ∙ m)))))

pub returns-in_err-vertices-clause-none : goal.returns-in_err-vertices-clause-none
returns-in_err-vertices-clause-none c =
    let q = err_from_is_err_and c.from_residual.result c.from_residual.ensures.1 in
    rw q.1 (λ memory prices short has. c.in_err-vertices.ensures.none (λ m. memory (q.2 ∙ m)) prices.vertices short.vertices has.vertices)
