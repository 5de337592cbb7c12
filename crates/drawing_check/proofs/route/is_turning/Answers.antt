use Rattle.std.proofs.Common.{◌≡◌, ℕ, ◌+◌, List, get_or, sym, ap, ◌∙◌, below_more, arith}
use Rattle.std.proofs.lemmas.Bool.{false≢true}
use denote.Enum.Bare.{differs_true, differs_false}
use Rattle.geometry.specs.declared.direction.Direction.{Direction}
use Rattle.geometry.specs.contracts.direction.Direction.{the_type}
use Rattle.ortho_rep.specs.declared.grid_points.Point.{Point}
use Rattle.ortho_rep.specs.declared.turn_strings.Turn.TheVariants.{Left}
use Rattle.drawing_check.specs.Routes.{path_of}
use Rattle.drawing_check.specs.Paths.{point_of}
use Rattle.drawing_check.specs.Draws.{direction_between, direction_of, turned}
use Rattle.drawing_check.proofs.route.is_turning.Goals as goal

-- the direction after corner k
onward_is : (path : List Point) (k : ℕ) (p q : Point) (d : Direction) → p ≡ point_of path (k + 1) → q ≡ point_of path (k + 2) → d ≡ direction_between p q → d ≡ direction_of path (k + 1)
onward_is path k p q d is_p is_q is_d =
    let two : k + 2 ≡ k + 1 + 1 = omega arith in
    is_d ∙ ap (λ (u : Point). direction_between u q) is_p ∙ ap (λ (v : Point). direction_between (point_of path (k + 1)) v) (is_q ∙ ap (point_of path) two)

pub returns-then-ne : goal.returns-then-ne
returns-then-ne c =
    let onward = onward_is (path_of c.args.route.now) c.loop-k.k c.point_at-in-loop-k.result c.point_at-in-loop-k-2.result c.direction_from-onward.result c.point_at-in-loop-k.ensures c.point_at-in-loop-k-2.ensures c.direction_from-onward.ensures in (
      λ e. absurd (false≢true e),
      λ h. absurd (differs_true the_type c.direction_from-onward.result c.turn_from.result (sym c.if-ne.ensures)
          (onward ∙ h.each c.loop-k.k (omega arith) ∙ sym (c.turn_from.ensures ∙ ap (turned (get_or c.args.turns.now c.loop-k.k Left)) c.loop-k.invariant.heading))),
    )

pub loop-k-preserved : goal.loop-k-preserved
loop-k-preserved c =
    let onward = onward_is (path_of c.args.route.now) c.loop-k.k c.point_at-in-loop-k.result c.point_at-in-loop-k-2.result c.direction_from-onward.result c.point_at-in-loop-k.ensures c.point_at-in-loop-k-2.ensures c.direction_from-onward.ensures in
    let same = differs_false the_type tt c.direction_from-onward.result c.turn_from.result (sym c.if-ne.ensures) in
    record {
      heading = onward;
      each = below_more _ _ c.loop-k.invariant.each (sym onward ∙ same ∙ c.turn_from.ensures ∙ ap (turned (get_or c.args.turns.now c.loop-k.k Left)) c.loop-k.invariant.heading);
    }
