use Rattle.std.proofs.Common.{rules, ◌≡◌, ◌<◌, ℤ, List, [], ◌∷◌, ◌++◌, length, arith, map, Some, sym, ap, ◌∙◌, subst, All, w32}
use Rattle.std.proofs.lemmas.Int.{to_z-of_z}
use mir.Val.{SFits}
use Rattle.serde_json.specs.View.{view}
use Rattle.checking.specs.Values.{IsOf32Bits}
use Rattle.std.proofs.lemmas.List.Elements.{All-push}
use Rattle.std.proofs.lemmas.Result.{err_from_is_err_and}
use Rattle.serde_json.specs.View.{items_of}
use Rattle.checking.specs.Wrong.{IsWrongPriceValue}
use Rattle.checking.proofs.Prices.{says_no_integers, one_more_integer}
use Rattle.checking.proofs.claims.price_list.Goals as goal

pub returns-in_err-integer_in-clause-none : goal.returns-in_err-integer_in-clause-none
returns-in_err-integer_in-clause-none c =
    let q = err_from_is_err_and c.from_residual-in_err-integer_in.result c.from_residual-in_err-integer_in.ensures.1 in
    let below : c.loop-element.element-index < length c.in_ok-elements.elements.now = omega arith in
    rw q.1 (λ memory prices short said.
    says_no_integers IsOf32Bits c.in_ok-elements.elements.now (view c.args.value.now) c.loop-element.element-index c.element-item.result
    c.in_ok-elements.ensures.ok below c.element-item.is c.in_err-integer_in.ensures.none prices short said)

pub loop-element-preserved : goal.loop-element-preserved
loop-element-preserved c =
    let below : c.loop-element.element-index < length c.in_ok-elements.elements.now = omega arith in
    let fits : SFits w32 c.in_ok-integer_in.field-0 = search rules in
    let pushed : c.push.new.self.items ≡ c.loop-element.prices.items ++ c.in_ok-integer_in.field-0 ∷ [] =
    c.in_ok-push.ensures.items ∙ ap (λ (z : ℤ). c.loop-element.prices.items ++ z ∷ []) (to_z-of_z w32 c.in_ok-integer_in.field-0 fits) in
    record {
      said = one_more_integer c.in_ok-elements.elements.now c.loop-element.element-index c.element-item.result c.loop-element.prices.items c.in_ok-integer_in.field-0
          below c.element-item.is c.loop-element.invariant.said c.in_ok-integer_in.ensures.ok
          ∙ ap (λ (zs : List ℤ). map Some zs) (sym pushed);
      within = subst (All IsOf32Bits) (sym pushed) (All-push IsOf32Bits c.loop-element.prices.items c.in_ok-integer_in.field-0 c.loop-element.invariant.within c.in_ok-integer_in.ensures.within);
    }

pub returns-in_err-elements-clause-fault : goal.returns-in_err-elements-clause-fault
returns-in_err-elements-clause-fault c =
    let q = err_from_is_err_and c.from_residual.result c.from_residual.ensures.1 in
    rw q.1 (λ memory. subst (IsWrongPriceValue (view c.args.value.now)) (sym (q.2 ∙ c.in_err-elements.ensures.fault)) (λ (items, is). c.in_err-elements.ensures.none items is))

pub returns-in_err-integer_in-clause-fault : goal.returns-in_err-integer_in-clause-fault
returns-in_err-integer_in-clause-fault c =
    let q = err_from_is_err_and c.from_residual-in_err-integer_in.result c.from_residual-in_err-integer_in.ensures.1 in
    let below : c.loop-element.element-index < length c.in_ok-elements.elements.now = omega arith in
    rw q.1 (λ memory. subst (IsWrongPriceValue (view c.args.value.now)) (sym (q.2 ∙ c.in_err-integer_in.ensures.fault)) (
      (items_of (map view c.in_ok-elements.elements.now), c.in_ok-elements.ensures.ok),
      says_no_integers IsOf32Bits c.in_ok-elements.elements.now (view c.args.value.now) c.loop-element.element-index c.element-item.result
          c.in_ok-elements.ensures.ok below c.element-item.is c.in_err-integer_in.ensures.none,
    ))
