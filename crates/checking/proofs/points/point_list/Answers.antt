use Rattle.std.proofs.Common.{◌<◌, length, arith}
use Rattle.serde_json.specs.View.{view}
use Rattle.ortho_rep.specs.Points.{origin}
use Rattle.checking.specs.Values.{point_data, IsShort}
use Rattle.std.proofs.Common.{◌≡◌, ◌++◌, ◌∷◌, [], List, map, take, All, sym, subst, ap, ◌∙◌, inl, inr}
use Rattle.std.proofs.lemmas.Result.{err_from_is_err_and}
use Rattle.std.proofs.lemmas.List.Elements.{All-push}
use Rattle.ortho_rep.specs.declared.grid_points.Point.{Point}
use Rattle.checking.specs.Wrong.{IsWrongPointList, IsWrongPoint}
use Rattle.checking.proofs.Wrong.{wrong_element}
use Rattle.checking.proofs.Parts.{says_none, one_more}
use Rattle.checking.proofs.points.point_list.Goals as goal

pub returns-in_err-point_in-clause-none : goal.returns-in_err-point_in-clause-none
returns-in_err-point_in-clause-none c =
    let q = err_from_is_err_and c.from_residual-in_err-point_in.result c.from_residual-in_err-point_in.ensures.1 in
    let below : c.loop-element.element-index < length c.in_ok-elements.elements.now = omega arith in
    rw q.1 (λ memory points short said.
    says_none point_data IsShort c.in_ok-elements.elements.now (view c.args.value.now) c.loop-element.element-index c.element-item.result origin
    c.in_ok-elements.ensures.ok below c.element-item.is c.in_err-point_in.ensures.none points short said)

pub loop-element-preserved : goal.loop-element-preserved
loop-element-preserved c =
    let below : c.loop-element.element-index < length c.in_ok-elements.elements.now = omega arith in
    let old : List Point = c.loop-element.points.items in
    let pushed : c.push.new.self.items ≡ old ++ c.in_ok-point_in.field-0 ∷ [] = c.in_ok-push.ensures.items in
    record {
      said = one_more point_data c.in_ok-elements.elements.now c.loop-element.element-index c.element-item.result old c.in_ok-point_in.field-0
          below c.element-item.is c.loop-element.invariant.said c.in_ok-point_in.ensures.ok
          ∙ ap (λ (ps : List Point). map point_data ps) (sym pushed);
      short = subst (All IsShort) (sym pushed) (All-push IsShort old c.in_ok-point_in.field-0 c.loop-element.invariant.short c.in_ok-point_in.ensures.short);
    }

pub returns-in_err-elements-clause-fault : goal.returns-in_err-elements-clause-fault
returns-in_err-elements-clause-fault c =
    let q = err_from_is_err_and c.from_residual.result c.from_residual.ensures.1 in
    rw q.1 (λ memory. inl ((λ (items, is). c.in_err-elements.ensures.none items is), q.2 ∙ c.in_err-elements.ensures.fault))

pub returns-in_err-point_in-clause-fault : goal.returns-in_err-point_in-clause-fault
returns-in_err-point_in-clause-fault c =
    let q = err_from_is_err_and c.from_residual-in_err-point_in.result c.from_residual-in_err-point_in.ensures.1 in
    let below : c.loop-element.element-index < length c.in_ok-elements.elements.now = omega arith in
    rw q.1 (λ memory. subst (IsWrongPointList (view c.args.value.now)) (sym q.2)
    (inr (wrong_element point_data IsShort IsWrongPoint c.in_ok-elements.elements.now (view c.args.value.now) c.loop-element.element-index c.element-item.result c.loop-element.points.items _
    c.in_ok-elements.ensures.ok below c.element-item.is c.loop-element.invariant.said c.loop-element.invariant.short c.in_err-point_in.ensures.fault)))
