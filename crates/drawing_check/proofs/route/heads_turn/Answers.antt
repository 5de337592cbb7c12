use Rattle.std.proofs.Common.{◌≡◌, ℕ, ◌<◌, refl, sym, ap, ◌∙◌, below_more, arith}
use Rattle.std.proofs.lemmas.Bool.{false≢true}
use denote.Enum.Bare.{differs_true, differs_false}
use Rattle.geometry.specs.contracts.direction.Direction.{the_type}
use Rattle.geometry.specs.Directions.{left_quarters}
use Rattle.faces.specs.Planes.{darts, reverse_dart, next}
use Rattle.ortho_rep.specs.Shapes.{angle_at}
use Rattle.drawing_check.specs.Routes.{direction_at}
use Rattle.drawing_check.proofs.route.heads_turn.Goals as goal

pub loop-dart-preserved : goal.loop-dart-preserved
loop-dart-preserved c =
    let p = c.args.plane.now in
    let dart = c.loop-dart.dart in
    let directions = c.args.directions.now in
    let count : c.darts-dart-end.result ≡ darts p = rw c.graph-graph.ensures.value at c.darts-dart-end.ensures.count in
    let inside : dart < darts p = omega (arith, count) in
    let reverse_dart_is : c.reverse.result ≡ reverse_dart p dart = rw c.graph-graph.ensures.value at c.reverse.ensures.value in
    let back : direction_at directions c.from.result ≡ direction_at directions (reverse_dart p dart) =
    ap (direction_at directions) (c.from.ensures ∙ reverse_dart_is) in
    let onward : c.left_quarters.result ≡ left_quarters (angle_at c.args.shape.now dart) (direction_at directions (next p dart)) =
    c.left_quarters.ensures
    ∙ ap (λ (a : ℕ). left_quarters a (direction_at directions c.from-in-loop-dart.result)) c.angle.ensures
    ∙ ap (λ (n : ℕ). left_quarters (angle_at c.args.shape.now dart) (direction_at directions n)) (c.from-in-loop-dart.ensures ∙ c.next.ensures.value) in
    let same = differs_false the_type tt (direction_at directions c.from.result) c.left_quarters.result (sym c.if-ne.ensures) in
    below_more _ _ c.loop-dart.invariant (sym back ∙ same ∙ onward)

pub returns-then-ne : goal.returns-then-ne
returns-then-ne c =
    let p = c.args.plane.now in
    let dart = c.loop-dart.dart in
    let directions = c.args.directions.now in
    let count : c.darts-dart-end.result ≡ darts p = rw c.graph-graph.ensures.value at c.darts-dart-end.ensures.count in
    let inside : dart < darts p = omega (arith, count) in
    let reverse_dart_is : c.reverse.result ≡ reverse_dart p dart = rw c.graph-graph.ensures.value at c.reverse.ensures.value in
    let back : direction_at directions c.from.result ≡ direction_at directions (reverse_dart p dart) =
    ap (direction_at directions) (c.from.ensures ∙ reverse_dart_is) in
    let onward : c.left_quarters.result ≡ left_quarters (angle_at c.args.shape.now dart) (direction_at directions (next p dart)) =
    c.left_quarters.ensures
    ∙ ap (λ (a : ℕ). left_quarters a (direction_at directions c.from-in-loop-dart.result)) c.angle.ensures
    ∙ ap (λ (n : ℕ). left_quarters (angle_at c.args.shape.now dart) (direction_at directions n)) (c.from-in-loop-dart.ensures ∙ c.next.ensures.value) in (
      λ e. absurd (false≢true e),
      λ h. absurd (differs_true the_type (direction_at directions c.from.result) c.left_quarters.result (sym c.if-ne.ensures) (back ∙ h dart inside ∙ sym onward)),
    )

pub returns : goal.returns
returns c =
    let count : c.darts-dart-end.result ≡ darts c.args.plane.now = rw c.graph-graph.ensures.value at c.darts-dart-end.ensures.count in
    (λ _ d lt. c.loop-dart.invariant d (omega (arith, count)), λ _. refl)
