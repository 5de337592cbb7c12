use Rattle.std.proofs.Common.{sym, subst, ◌∙◌}
use Rattle.std.proofs.lemmas.Result.{err_from_is_err_and}
use Rattle.serde_json.specs.View.{view}
use Rattle.checking.specs.Wrong.{IsWrongPrices}
use Rattle.checking.proofs.Prices.{lists_named}
use Rattle.checking.proofs.claims.prices_in.Goals as goal

pub returns-in_err-two_price_lists-in-Some-clause-none : goal.returns-in_err-two_price_lists-in-Some-clause-none
returns-in_err-two_price_lists-in-Some-clause-none c =
    let q = err_from_is_err_and c.from_residual.result c.from_residual.ensures.1 in
    rw q.1 (λ memory prices short says. c.in_err-two_price_lists-in-Some.ensures.none (λ m. memory (q.2 ∙ m)) prices short
    (lists_named (view c.args.value.now) (view c.in-Some.field.now) prices c.in-Some.ensures says))

pub returns-in_err-two_price_lists-in-Some-clause-fault : goal.returns-in_err-two_price_lists-in-Some-clause-fault
returns-in_err-two_price_lists-in-Some-clause-fault c =
    let q = err_from_is_err_and c.from_residual.result c.from_residual.ensures.1 in
    rw q.1 (λ memory. (view c.in-Some.field.now, sym c.in-Some.ensures, subst (IsWrongPrices (view c.in-Some.field.now)) (sym q.2) (c.in_err-two_price_lists-in-Some.ensures.fault (λ m. memory (q.2 ∙ m)))))
