use Rattle.std.proofs.Common.{ap, subst, arith}
use Rattle.embedding.specs.Darts.{dart_count}
use Rattle.min_cost_flow.specs.Flow.{amounts}
use Rattle.ortho_rep.specs.declared.turn_strings.DartShape.{DartShape}
use Rattle.ortho_rep.specs.OfFlow.{angles_of, strings_of}
use Rattle.ortho_rep.specs.Repeats.{HaveShapes}
use Rattle.ortho_rep.proofs.OneSided.{shapes-more, repeats-more}
use Rattle.ortho_rep.proofs.least.darts_with.Goals as goal

pub loop-dart-preserved : goal.loop-dart-preserved
loop-dart-preserved c =
    let x = amounts c.args.solved.now.flow in
    let given = c.args.given.now in
    let found = c.loop-dart.found.items in
    let made = c.dart_turns-turn.result in
    let one : DartShape = record { angle = c.dart_angle-angle.result; turn = made.0; count = made.1 } in
    rw c.in_ok-push.ensures.items (
      shapes-more (angles_of given x) (strings_of c.args.plane.now given x) c.loop-dart.dart found one c.loop-dart.invariant.0 c.dart_angle-angle.ensures c.dart_turns-turn.ensures.turns,
      repeats-more found one c.loop-dart.invariant.1 c.dart_turns-turn.ensures.short,
    )

pub returns-clause-flow : goal.returns-clause-flow
returns-clause-flow c =
    subst (λ n. HaveShapes (angles_of c.args.given.now (amounts c.args.solved.now.flow)) (strings_of c.args.plane.now c.args.given.now (amounts c.args.solved.now.flow)) n c.loop-dart.found.items)
    (omega (arith, c.loop-dart-test.false, c.darts-darts.ensures.count, ap dart_count c.graph.ensures.value)) c.loop-dart.invariant.0
