use Rattle.std.proofs.Common.{◌≡◌, ◌∙◌, IfOk, IfErr, rules, subst, sym}
use Rattle.planarbend_c.specs.Sources.{parsed_lists}
use Rattle.answers.specs.declared.shaped_plane.ShapedPlane.{ShapedPlane}
use Rattle.reports.specs.Lengths.{IsQuick}
use Rattle.answers.specs.Drawings.{IsDrawing}
use Rattle.answers.specs.Kept.{AreDrawnStraight, IsKeptPlane, IsUnkept, KeepsAsked}
use Rattle.planarbend_c.specs.Requests.{shape_kind}
use Rattle.planarbend_c.proofs.layout.laid_keeping.Goals as goal

pub returns-in-Ok-Err-clause-fault : goal.returns-in-Ok-Err-clause-fault
returns-in-Ok-Err-clause-fault c = c.outcome_of_keep_fault.ensures.told c.args.conditions.now c.args.choice (parsed_lists c.args.rec.now) (subst (λ made. IfErr made (IsUnkept c.args.conditions.now c.args.choice (parsed_lists c.args.rec.now))) c.in-Ok-Err.field-0-is c.in-Ok-Err.ensures.unkept)

pub returns-in-Err-Wide-clause-fault : goal.returns-in-Err-Wide-clause-fault
returns-in-Err-Wide-clause-fault c =
    let laid = c.in-Ok-Ok.laid in
    let known : IsKeptPlane c.args.conditions.now c.args.choice (parsed_lists c.args.rec.now) c.in-Ok-Ok.laid = subst (λ made. IfOk made (IsKeptPlane c.args.conditions.now c.args.choice (parsed_lists c.args.rec.now))) c.in-Ok-Ok.field-0-is c.in-Ok-Ok.ensures.kept in
    record {
      plane = laid.plane;
      shape = laid.shape;
      prices = laid.prices;
      lists = known.lists;
      rules = known.rules;
      kept = known.kept;
      shown = c.in-Err-Wide.ensures.wide c.in-Err-Wide.field-0-is;
    }

pub invariant_of-result : goal.invariant_of-result
invariant_of-result c =
    let known : IsKeptPlane c.args.conditions.now c.args.choice (parsed_lists c.args.rec.now) c.in-Ok-Ok.laid = subst (λ made. IfOk made (IsKeptPlane c.args.conditions.now c.args.choice (parsed_lists c.args.rec.now))) c.in-Ok-Ok.field-0-is c.in-Ok-Ok.ensures.kept in
    record { priced = known.kept.proof.prices }

pub returns-then-is_none-clause-found : goal.returns-then-is_none-clause-found
returns-then-is_none-clause-found c =
    let known : IsKeptPlane c.args.conditions.now c.args.choice (parsed_lists c.args.rec.now) c.in-Ok-Ok.laid = subst (λ made. IfOk made (IsKeptPlane c.args.conditions.now c.args.choice (parsed_lists c.args.rec.now))) c.in-Ok-Ok.field-0-is c.in-Ok-Ok.ensures.kept in
    record {
      lists = known.lists;
      rules = known.rules;
      kept = known.kept;
      drawn = tt;
      quick = λ _. tt;
      straight = tt;
      keeps = tt;
    }

pub returns-then-is_none-clause-asked : goal.returns-then-is_none-clause-asked
returns-then-is_none-clause-asked c =
    let kind : c.in-Ok-Ok.laid.drawing_kind ≡ shape_kind c.args.kind =
    subst (λ made. IfOk made (λ (laid : ShapedPlane). laid.drawing_kind ≡ c.shape_kind.result)) c.in-Ok-Ok.field-0-is c.in-Ok-Ok.ensures.kind ∙ c.shape_kind.ensures in
    record { points = search rules; shape = kind }

pub invariant_of-result-in-Ok : goal.invariant_of-result-in-Ok
invariant_of-result-in-Ok c =
    let known : IsKeptPlane c.args.conditions.now c.args.choice (parsed_lists c.args.rec.now) c.in-Ok-Ok.laid = subst (λ made. IfOk made (IsKeptPlane c.args.conditions.now c.args.choice (parsed_lists c.args.rec.now))) c.in-Ok-Ok.field-0-is c.in-Ok-Ok.ensures.kept in
    record { priced = known.kept.proof.prices }

pub returns-in-Ok-clause-found : goal.returns-in-Ok-clause-found
returns-in-Ok-clause-found c =
    let known : IsKeptPlane c.args.conditions.now c.args.choice (parsed_lists c.args.rec.now) c.in-Ok-Ok.laid = subst (λ made. IfOk made (IsKeptPlane c.args.conditions.now c.args.choice (parsed_lists c.args.rec.now))) c.in-Ok-Ok.field-0-is c.in-Ok-Ok.ensures.kept in
    let laid = c.in-Ok-Ok.laid in
    record {
      lists = known.lists;
      rules = known.rules;
      kept = known.kept;
      drawn = subst (IsDrawing laid.plane laid.shape) (sym c.into_points.ensures) c.in-Ok.ensures.drawn;
      quick = λ is. subst (IsQuick laid.plane laid.shape) (sym c.into_points.ensures) (c.in-Ok.ensures.quick is);
      straight = subst (AreDrawnStraight laid.plane laid.shape) (sym c.into_points.ensures) c.in-Ok.ensures.straight;
      keeps = subst (KeepsAsked c.args.conditions.now laid.plane) (sym c.into_points.ensures) (c.in-Ok.ensures.kept c.args.conditions.now c.args.choice known.kept);
    }

pub returns-in-Ok-clause-asked : goal.returns-in-Ok-clause-asked
returns-in-Ok-clause-asked c =
    let kind : c.in-Ok-Ok.laid.drawing_kind ≡ shape_kind c.args.kind =
    subst (λ made. IfOk made (λ (laid : ShapedPlane). laid.drawing_kind ≡ c.shape_kind.result)) c.in-Ok-Ok.field-0-is c.in-Ok-Ok.ensures.kind ∙ c.shape_kind.ensures in
    record { points = search rules; shape = kind }
