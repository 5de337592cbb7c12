-- Verdicts, step by step.
use Rattle.std.proofs.Common.{◌≡◌, ℕ, ◌<◌, Bool, List, Result, Ok, Err, IfOk, ap, subst, arith}
use Rattle.std.specs.Result.{result_unwrap_or}
use Rattle.embedding.specs.declared.breaks.Rule.{Rule}
use Rattle.faces.specs.Planes.{PlaneModel, IsPlane, with_outer}
use Rattle.ortho_rep.specs.Points.{PointsModel}
use Rattle.ortho_rep.specs.Shapes.{ShapeModel}
use Rattle.referee.specs.declared.claims.Claims.{Claims}
use Rattle.referee.specs.Drawings.{IsDrawnBy}
use Rattle.checking.specs.declared.line_content.DrawingInput.{DrawingInput}
use Rattle.checking.specs.declared.line_content.DrawingInput.TheVariants as given
use Rattle.checking.specs.declared.judging.Verdict.{Verdict}
use Rattle.checking.specs.declared.judging.Verdict.TheVariants as verdict
use Rattle.checking.specs.Verdicts.{IsFound, IsVerdictOnDrawing, IsVerdictOnPlane, IsVerdict}

-- what is given for a plane is not refused
never_refused : (faces : Bool) (p : PlaneModel) (given : DrawingInput) (rule : Rule) → IsVerdictOnPlane faces p given (verdict.Refused rule) → ⊥
never_refused faces p (given.Drawing said) rule h = h.found
never_refused faces p (given.Fault fault) rule h = let e : verdict.Refused rule ≡ verdict.Memory = h.0 in cc
never_refused faces p given.Missing rule h = let e : verdict.Refused rule ≡ verdict.Missing = h in cc
never_refused faces p given.Unread rule h = let e : verdict.Refused rule ≡ verdict.Unread = h in cc

-- the verdict on a plane is that on its lists
pub on_lists : (faces : Bool) (g : List (List ℕ)) (p : PlaneModel) (given : DrawingInput) (v : Verdict) → p.lists ≡ g → IsPlane p
    → IsVerdictOnPlane faces p given v → IsVerdict faces g given v
on_lists faces g p given (verdict.Refused rule) same plane h = absurd (never_refused faces p given rule h)
on_lists faces g p given verdict.Memory same plane h = tt
on_lists faces g p given verdict.Missing same plane h = record { plane = p; lists_are = same; is_plane = plane; verdict_is = h }
on_lists faces g p given verdict.Unread same plane h = record { plane = p; lists_are = same; is_plane = plane; verdict_is = h }
on_lists faces g p given (verdict.Line f) same plane h = record { plane = p; lists_are = same; is_plane = plane; verdict_is = h }
on_lists faces g p given (verdict.Drawn f) same plane h = record { plane = p; lists_are = same; is_plane = plane; verdict_is = h }
on_lists faces g p given verdict.Regions same plane h = record { plane = p; lists_are = same; is_plane = plane; verdict_is = h }
on_lists faces g p given (verdict.Claim c) same plane h = record { plane = p; lists_are = same; is_plane = plane; verdict_is = h }
on_lists faces g p given (verdict.Ok bends fewest) same plane h = record { plane = p; lists_are = same; is_plane = plane; verdict_is = h }

-- the verdict on a representation that points draw is that on the points
on_drawing : (faces : Bool) (p now : PlaneModel) (points : PointsModel) (shape : ShapeModel) (claims : Claims) (v : Verdict)
    → now ≡ with_outer p now.outer → now.outer < p.faces → IsDrawnBy now points shape → IsFound faces now points shape claims v
    → IsVerdictOnDrawing faces p points claims v
on_drawing faces p now points shape claims (verdict.Refused rule) same named drawn found = absurd found
on_drawing faces p now points shape claims verdict.Missing same named drawn found = absurd found
on_drawing faces p now points shape claims verdict.Unread same named drawn found = absurd found
on_drawing faces p now points shape claims (verdict.Line f) same named drawn found = absurd found
on_drawing faces p now points shape claims (verdict.Drawn f) same named drawn found = absurd found
on_drawing faces p now points shape claims verdict.Memory same named drawn found = tt
on_drawing faces p now points shape claims verdict.Regions same named drawn found = record {
  outer = now.outer;
  named = named;
  shape = shape;
  drawn = subst (λ (q : PlaneModel). IsDrawnBy q points shape) same drawn;
  found = subst (λ (q : PlaneModel). IsFound faces q points shape claims verdict.Regions) same found;
}
on_drawing faces p now points shape claims (verdict.Claim c) same named drawn found = record {
  outer = now.outer;
  named = named;
  shape = shape;
  drawn = subst (λ (q : PlaneModel). IsDrawnBy q points shape) same drawn;
  found = subst (λ (q : PlaneModel). IsFound faces q points shape claims (verdict.Claim c)) same found;
}
on_drawing faces p now points shape claims (verdict.Ok bends fewest) same named drawn found = record {
  outer = now.outer;
  named = named;
  shape = shape;
  drawn = subst (λ (q : PlaneModel). IsDrawnBy q points shape) same drawn;
  found = subst (λ (q : PlaneModel). IsFound faces q points shape claims (verdict.Ok bends fewest)) same found;
}

-- so is the verdict on a representation of a drawing that has these points
on_judged : (faces : Bool) (p now : PlaneModel) (points drawing : PointsModel) (shape : ShapeModel) (claims : Claims) (v : Verdict) (outer : ℕ)
    → drawing ≡ points → now ≡ with_outer p now.outer → outer ≡ now.outer → outer < now.faces → IsDrawnBy now drawing shape
    → IsFound faces now drawing shape claims v → IsVerdictOnDrawing faces p points claims v
on_judged faces p now points drawing shape claims v outer points_same same outer_same inside drawn found =
    let few : now.faces ≡ p.faces = ap (λ (q : PlaneModel). q.faces) same in
    let named : now.outer < p.faces = omega arith in
    on_drawing faces p now points shape claims v same named (subst (λ (q : PointsModel). IsDrawnBy now q shape) points_same drawn)
    (subst (λ (q : PointsModel). IsFound faces now q shape claims v) points_same found)

-- where memory runs out for it, the verdict is that
pub on_settled : {E : Type 0} (faces : Bool) (p now : PlaneModel) (points drawing : PointsModel) (shape : ShapeModel) (claims : Claims) (found : Result Verdict E) (outer : ℕ)
    → drawing ≡ points → now ≡ with_outer p now.outer → outer ≡ now.outer → outer < now.faces → IsDrawnBy now drawing shape
    → IfOk found (IsFound faces now drawing shape claims) → IsVerdictOnDrawing faces p points claims (result_unwrap_or found verdict.Memory)
on_settled faces p now points drawing shape claims (Ok v) outer points_same same outer_same inside drawn found =
    on_judged faces p now points drawing shape claims v outer points_same same outer_same inside drawn found
on_settled faces p now points drawing shape claims (Err e) outer points_same same outer_same inside drawn found = tt
