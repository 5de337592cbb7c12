use Rattle.std.proofs.Common.{◌≡◌, ◌≤◌, ◌<◌, ◌+◌, ◌++◌, ◌∷◌, [], ◌∙◌, ℕ, List, length, length-append, get_or, sym, ap, subst, below_more, arith}
use Rattle.std.proofs.lemmas.List.{get_or_append_left, get_or_push}
use Rattle.geometry.specs.Directions.{left_quarters}
use Rattle.faces.specs.Planes.{darts, reverse_dart, next}
use Rattle.drawing_check.specs.Routes.{direction_at}
use Rattle.referee.proofs.shape.list_angles.Goals as goal

pub loop-dart-preserved : goal.loop-dart-preserved
loop-dart-preserved c =
    let p = c.args.plane.now in
    let directions = c.args.directions.now in
    let dart = c.loop-dart.dart in
    let so_far = c.loop-dart.invariant in
    let old : List ℕ = c.loop-dart.angles.items in
    let new : List ℕ = c.add.new.list.items in
    let angle : ℕ = c.angle_between.result in
    let added : new ≡ old ++ angle ∷ [] = c.in_ok-add.ensures in
    let kept : (k : ℕ) → k < dart → get_or new k 0 ≡ get_or old k 0 = λ k lt. ap (λ (xs : List ℕ). get_or xs k 0) added ∙ get_or_append_left old (angle ∷ []) 0 k (omega (arith, lt, so_far.count)) in
    let last : get_or new dart 0 ≡ angle = ap (λ (xs : List ℕ). get_or xs dart 0) added ∙ get_or_push old angle 0 dart so_far.count in
    let reverse_dart_is : c.reverse.result ≡ reverse_dart p dart = rw c.graph-graph.ensures.value at c.reverse.ensures.value in
    let back : direction_at directions c.from-in-loop-dart.result ≡ direction_at directions (reverse_dart p dart) =
    ap (direction_at directions) (c.from-in-loop-dart.ensures ∙ reverse_dart_is) in
    record {
      count = ap length added ∙ length-append old (angle ∷ []) ∙ ap (λ (n : ℕ). n + 1) so_far.count;
      some = below_more _ _ (λ d lt. subst (λ (n : ℕ). 1 ≤ n) (sym (kept d lt)) (so_far.some d lt)) (subst (λ (n : ℕ). 1 ≤ n) (sym last) c.angle_between.ensures.some);
      few = below_more _ _ (λ d lt. subst (λ (n : ℕ). n ≤ 4) (sym (kept d lt)) (so_far.few d lt)) (subst (λ (n : ℕ). n ≤ 4) (sym last) c.angle_between.ensures.few);
      heads = below_more _ _
          (λ d lt. so_far.heads d lt ∙ ap (λ (a : ℕ). left_quarters a (direction_at directions (next p d))) (sym (kept d lt)))
          (sym back ∙ c.angle_between.ensures.value
          ∙ ap (λ (n : ℕ). left_quarters angle (direction_at directions n)) (c.from-in-loop-dart-2.ensures ∙ c.next.ensures.value)
          ∙ ap (λ (a : ℕ). left_quarters a (direction_at directions (next p dart))) (sym last));
    }

pub returns-clause-heads : goal.returns-clause-heads
returns-clause-heads c =
    let count : c.darts-dart-end.result ≡ darts c.args.plane.now = rw c.graph-graph.ensures.value at c.darts-dart-end.ensures.count in
    λ d lt. c.loop-dart.invariant.heads d (omega (arith, lt, count))
