use Rattle.std.proofs.Common.{◌<◌, ◌≤◌, length, arith}
use Rattle.serde_json.specs.View.{view}
use Rattle.checking.specs.Values.{natural}
use Rattle.std.proofs.Common.{map, sym, subst, ◌∙◌}
use Rattle.std.proofs.lemmas.Result.{err_from_is_err_and}
use Rattle.serde_json.specs.View.{items_of}
use Rattle.checking.specs.Wrong.{IsWrongAngles}
use Rattle.checking.proofs.Parts.{says_none}
use Rattle.checking.proofs.claims.angle_list.Goals as goal

pub returns-in_err-number_in-clause-none : goal.returns-in_err-number_in-clause-none
returns-in_err-number_in-clause-none c =
    let q = err_from_is_err_and c.from_residual-in_err-number_in.result c.from_residual-in_err-number_in.ensures.1 in
    let below : c.loop-element.element-index < length c.in_ok-elements.elements.now = omega arith in
    rw q.1 (λ memory angles short said.
    says_none natural (λ n. n ≤ 255) c.in_ok-elements.elements.now (view c.args.value.now) c.loop-element.element-index c.element-item.result 0
    c.in_ok-elements.ensures.ok below c.element-item.is c.in_err-number_in.ensures.none angles short said)

pub returns-in_err-elements-clause-fault : goal.returns-in_err-elements-clause-fault
returns-in_err-elements-clause-fault c =
    let q = err_from_is_err_and c.from_residual.result c.from_residual.ensures.1 in
    rw q.1 (λ memory. subst (IsWrongAngles (view c.args.value.now)) (sym (q.2 ∙ c.in_err-elements.ensures.fault)) (λ (items, is). c.in_err-elements.ensures.none items is))

pub returns-in_err-number_in-clause-fault : goal.returns-in_err-number_in-clause-fault
returns-in_err-number_in-clause-fault c =
    let q = err_from_is_err_and c.from_residual-in_err-number_in.result c.from_residual-in_err-number_in.ensures.1 in
    let below : c.loop-element.element-index < length c.in_ok-elements.elements.now = omega arith in
    rw q.1 (λ memory. subst (IsWrongAngles (view c.args.value.now)) (sym (q.2 ∙ c.in_err-number_in.ensures.fault)) (
      (items_of (map view c.in_ok-elements.elements.now), c.in_ok-elements.ensures.ok),
      says_none natural (λ n. n ≤ 255) c.in_ok-elements.elements.now (view c.args.value.now) c.loop-element.element-index c.element-item.result 0
          c.in_ok-elements.ensures.ok below c.element-item.is c.in_err-number_in.ensures.none,
    ))
