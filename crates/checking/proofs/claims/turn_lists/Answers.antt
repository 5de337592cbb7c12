use Rattle.std.proofs.Common.{◌<◌, length, arith, [], ◌∙◌}
use Rattle.std.specs.Prelude.{⊤}
use Rattle.std.proofs.lemmas.Result.{err_from_is_err_and}
use Rattle.serde_json.specs.View.{view}
use Rattle.checking.specs.Values.{turns_data}
use Rattle.checking.proofs.Parts.{says_none}
use Rattle.checking.proofs.claims.turn_lists.Goals as goal

pub returns-in_err-turns_of-clause-none : goal.returns-in_err-turns_of-clause-none
returns-in_err-turns_of-clause-none c =
    let q = err_from_is_err_and c.from_residual-in_err-turns_of.result c.from_residual-in_err-turns_of.ensures.1 in
    let below : c.loop-element.element-index < length c.in_ok-elements.elements.now = omega arith in
    rw q.1 (λ memory strings said.
    says_none turns_data (λ _. ⊤) c.in_ok-elements.elements.now (view c.args.value.now) c.loop-element.element-index c.element-item.result []
    c.in_ok-elements.ensures.ok below c.element-item.is (λ turns _. c.in_err-turns_of.ensures.none (λ m. memory (q.2 ∙ m)) turns) strings (λ k d below. tt) said)

pub returns-in_err-turns_of-clause-fault : goal.returns-in_err-turns_of-clause-fault
returns-in_err-turns_of-clause-fault c =
    let q = err_from_is_err_and c.from_residual-in_err-turns_of.result c.from_residual-in_err-turns_of.ensures.1 in
    rw q.1 (λ memory. q.2 ∙ c.in_err-turns_of.ensures.fault (λ m. memory (q.2 ∙ m)))
