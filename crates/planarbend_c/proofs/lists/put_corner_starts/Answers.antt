use Rattle.std.proofs.Common.{◌≡◌, ◌≢◌, ◌∙◌, ◌+◌, ◌<◌, ℕ, ap, arith, length, refl, set, sym}
use Rattle.std.proofs.Common.{below_more, get_or-set_other, length-set, get_or-set_same}
use Rattle.std.proofs.lemmas.List.{drop-set-lt}
use Rattle.std.specs.List.{slice_index}
use Rattle.planarbend_c.specs.Found.{corners_before}
use Rattle.planarbend_c.proofs.Corners.{count_below, count_more}
use Rattle.planarbend_c.proofs.Written.{some_room}
use Rattle.planarbend_c.proofs.lists.put_corner_starts.Goals as goal

pub loop-edge-init : goal.loop-edge-init
loop-edge-init c =
    let some = some_room (length c.args.out.now) c.if-is_empty.ensures in
    let first : (e : ℕ) → e < 0 + 1 → e ≡ 0 = λ e none. omega (arith, none) in (
      refl,
      λ e none.
          ap (slice_index (set c.args.out.now 0 0)) (first e none)
          ∙ get_or-set_same c.args.out.now 0 0 0 some
          ∙ ap (corners_before c.args.points.now.corners) (sym (first e none)),
      refl,
    )

pub overflow_cast-start : goal.overflow_cast-start
overflow_cast-start c =
    let lists = c.args.points.now.corners in
    let inside : c.loop-edge.edge < length lists = omega (arith, c.requires.edges, c.loop-edge-test.true) in
    let below = count_below lists c.loop-edge.edge inside in
    let here = ap length c.corners.ensures in
    omega (arith, below, here, c.requires.few)

pub overflow_add-start : goal.overflow_add-start
overflow_add-start c =
    let lists = c.args.points.now.corners in
    let inside : c.loop-edge.edge < length lists = omega (arith, c.requires.edges, c.loop-edge-test.true) in
    let below = count_below lists c.loop-edge.edge inside in
    let here = ap length c.corners.ensures in
    omega (arith, below, here, c.requires.few, c.loop-edge.invariant.0)

pub loop-edge-preserved : goal.loop-edge-preserved
loop-edge-preserved c =
    let lists = c.args.points.now.corners in
    let edge = c.loop-edge.edge in
    let inside : edge < length lists = omega (arith, c.requires.edges, c.loop-edge-test.true) in
    let some = some_room (length c.args.out.now) c.if-is_empty.ensures in
    let long : length c.loop-edge.out ≡ length c.args.out.now = c.loop-edge.auto.out ∙ length-set c.args.out.now 0 0 in
    let room : c.from.result + 1 < length c.loop-edge.out = omega (arith, c.requires.room some, c.loop-edge-test.true, c.from.ensures, long) in
    let here = ap length c.corners.ensures in
    let sum : c.loop-edge.start + length c.corners.result.now ≡ corners_before lists (edge + 1) = omega (arith, count_more lists edge inside, here, c.loop-edge.invariant.0) in
    let place : c.from.result + 1 ≡ edge + 1 = omega (arith, c.from.ensures) in (
      sum,
      below_more _ _
          (λ e before.
          let ne : e ≢ c.from.result + 1 = omega (arith, before, place) in
          get_or-set_other c.loop-edge.out (c.from.result + 1) e _ 0 ne ∙ c.loop-edge.invariant.1 e before)
          (ap (slice_index (set c.loop-edge.out (c.from.result + 1) _)) (sym place)
          ∙ get_or-set_same c.loop-edge.out (c.from.result + 1) _ 0 room
          ∙ sum),
      drop-set-lt (c.args.edges + 1) c.loop-edge.out (c.from.result + 1) _ (omega (arith, c.from.ensures, c.loop-edge-test.true)) ∙ c.loop-edge.invariant.2,
    )

pub returns-clause-held : goal.returns-clause-held
returns-clause-held c some e inside = c.loop-edge.invariant.1 e (omega (arith, inside, c.requires.edges, c.loop-edge-test.false))

pub returns-clause-rest : goal.returns-clause-rest
returns-clause-rest c = record {
  long = c.loop-edge.auto.out ∙ length-set c.args.out.now 0 0;
  rest = c.loop-edge.invariant.2 ∙ drop-set-lt (c.args.edges + 1) c.args.out.now 0 0 (omega arith);
}
