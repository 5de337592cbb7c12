use Rattle.std.proofs.Common.{◌≡◌, ◌∙◌, ◌+◌, ◌<◌, ◌≤◌, IfSome, ap, arith, length, refl, subst, sym, Option, ℕ}
use Rattle.std.specs.Result.{OkIff}
use Rattle.planarbend_c.specs.Found.{all_corners}
use Rattle.planarbend_c.proofs.Corners.{converted, count_all, count_more}
use Rattle.planarbend_c.proofs.lists.corner_count.Goals as goal

pub loop-edge-init : goal.loop-edge-init
loop-edge-init c = refl

pub loop-edge-preserved : goal.loop-edge-preserved
loop-edge-preserved c =
    let lists = c.args.points.now.corners in
    let edge = c.loop-edge.edge in
    let inside : edge < length lists = omega (arith, c.requires, c.loop-edge-test.true) in
    let more = count_more lists edge inside in
    let here = ap length c.corners.ensures in
    let sum : c.in_ok-count.count ≡ c.loop-edge.count + length c.corners.result.now = c.in_ok-count.ensures.1 in
    omega (arith, more, here, sum, c.loop-edge.invariant)

pub returns : goal.returns
returns c =
    let lists = c.args.points.now.corners in
    let end : length lists ≤ c.loop-edge.edge = omega (arith, c.requires, c.loop-edge-test.false) in
    let all : c.loop-edge.count ≡ length (all_corners lists) = c.loop-edge.invariant ∙ count_all lists c.loop-edge.edge end in
    subst (λ (found : Option ℕ). IfSome found (λ count. count ≡ length (all_corners lists))) (sym c.ok.ensures.value)
    (converted c.try_from.result (c.loop-edge.count < 4294967296) _ (subst (λ (n : ℕ). OkIff c.try_from.result (c.loop-edge.count < 4294967296) n) all c.try_from.ensures))
