use Rattle.std.proofs.Common.{sym, subst, ◌∙◌}
use Rattle.std.proofs.lemmas.Result.{err_from_is_err_and}
use Rattle.serde_json.specs.View.{view}
use Rattle.checking.specs.Wrong.{IsWrongTurns}
use Rattle.checking.proofs.claims.turns_in.Goals as goal

pub returns-in_err-turn_lists-in-Some-clause-fault : goal.returns-in_err-turn_lists-in-Some-clause-fault
returns-in_err-turn_lists-in-Some-clause-fault c =
    let q = err_from_is_err_and c.from_residual.result c.from_residual.ensures.1 in
    rw q.1 (λ memory.
    let wrong = subst (IsWrongTurns (view c.in-Some.field.now)) (sym (q.2 ∙ c.in_err-turn_lists-in-Some.ensures.fault (λ m. memory (q.2 ∙ m)))) (c.in_err-turn_lists-in-Some.ensures.none (λ m. memory (q.2 ∙ m))) in
    (view c.in-Some.field.now, sym c.in-Some.ensures, wrong))
