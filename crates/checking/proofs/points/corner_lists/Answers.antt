use Rattle.std.proofs.Common.{◌<◌, length, arith, [], All}
use Rattle.serde_json.specs.View.{view}
use Rattle.checking.specs.Values.{list_data, IsShort}
use Rattle.std.proofs.Common.{◌≡◌, ◌++◌, ◌∷◌, List, Vec, Global, map, take, sym, subst, ap, ◌∙◌, inl, inr}
use Rattle.std.proofs.lemmas.Result.{err_from_is_err_and}
use Rattle.std.proofs.lemmas.List.{map_push}
use Rattle.std.proofs.lemmas.List.Elements.{All-push}
use Rattle.ortho_rep.specs.declared.grid_points.Point.{Point}
use Rattle.ortho_rep.specs.Storage.{lists_in}
use Rattle.checking.specs.Wrong.{IsWrongPointList, IsWrongCorners}
use Rattle.checking.proofs.Wrong.{wrong_element}
use Rattle.checking.proofs.Parts.{says_none, one_more}
use Rattle.checking.proofs.points.corner_lists.Goals as goal

pub returns-in_err-point_list-clause-none : goal.returns-in_err-point_list-clause-none
returns-in_err-point_list-clause-none c =
    let q = err_from_is_err_and c.from_residual-in_err-point_list.result c.from_residual-in_err-point_list.ensures.1 in
    let below : c.loop-element.element-index < length c.in_ok-elements.elements.now = omega arith in
    rw q.1 (λ memory lists short said.
    says_none list_data (All IsShort) c.in_ok-elements.elements.now (view c.args.value.now) c.loop-element.element-index c.element-item.result []
    c.in_ok-elements.ensures.ok below c.element-item.is (c.in_err-point_list.ensures.none (λ m. memory (q.2 ∙ m))) lists short said)

pub loop-element-preserved : goal.loop-element-preserved
loop-element-preserved c =
    let below : c.loop-element.element-index < length c.in_ok-elements.elements.now = omega arith in
    let items : Vec Point Global → List Point = λ (v : Vec Point Global). v.items in
    let old : List (List Point) = lists_in c.loop-element.lists.items in
    let pushed : lists_in c.push.new.self.items ≡ old ++ c.in_ok-point_list.field-0.items ∷ [] =
    ap lists_in c.in_ok-push.ensures.items ∙ map_push items c.loop-element.lists.items c.in_ok-point_list.field-0 in
    record {
      said = one_more list_data c.in_ok-elements.elements.now c.loop-element.element-index c.element-item.result old c.in_ok-point_list.field-0.items
          below c.element-item.is c.loop-element.invariant.said c.in_ok-point_list.ensures.ok
          ∙ ap (λ (ls : List (List Point)). map list_data ls) (sym pushed);
      short = subst (All (All IsShort)) (sym pushed) (All-push (All IsShort) old c.in_ok-point_list.field-0.items c.loop-element.invariant.short c.in_ok-point_list.ensures.short);
    }

pub returns-in_err-elements-clause-fault : goal.returns-in_err-elements-clause-fault
returns-in_err-elements-clause-fault c =
    let q = err_from_is_err_and c.from_residual.result c.from_residual.ensures.1 in
    rw q.1 (λ memory. inl ((λ (items, is). c.in_err-elements.ensures.none items is), q.2 ∙ c.in_err-elements.ensures.fault))

pub returns-in_err-point_list-clause-fault : goal.returns-in_err-point_list-clause-fault
returns-in_err-point_list-clause-fault c =
    let q = err_from_is_err_and c.from_residual-in_err-point_list.result c.from_residual-in_err-point_list.ensures.1 in
    let below : c.loop-element.element-index < length c.in_ok-elements.elements.now = omega arith in
    rw q.1 (λ memory. subst (IsWrongCorners (view c.args.value.now)) (sym q.2)
    (inr (wrong_element list_data (All IsShort) IsWrongPointList c.in_ok-elements.elements.now (view c.args.value.now) c.loop-element.element-index c.element-item.result (lists_in c.loop-element.lists.items) _
    c.in_ok-elements.ensures.ok below c.element-item.is c.loop-element.invariant.said c.loop-element.invariant.short (c.in_err-point_list.ensures.fault (λ m. memory (q.2 ∙ m))))))
