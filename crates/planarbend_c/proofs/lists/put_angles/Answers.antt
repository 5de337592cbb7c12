use Rattle.std.proofs.Common.{◌≡◌, ◌∙◌, ◌<◌, ap, arith, length, refl, sym}
use Rattle.embedding.specs.Darts.{dart_count}
use Rattle.std.proofs.lemmas.List.{drop-set-lt}
use Rattle.planarbend_c.proofs.Written.{all_written, one_written, some_room}
use Rattle.planarbend_c.proofs.lists.put_angles.Goals as goal

pub loop-dart-init : goal.loop-dart-init
loop-dart-init c = (refl, refl)

pub loop-dart-preserved : goal.loop-dart-preserved
loop-dart-preserved c =
    let dart = c.loop-dart.dart in
    let angles = c.args.shape.now.angles in
    let end : c.darts-dart-end.result ≡ length angles = c.darts-dart-end.ensures.count ∙ ap dart_count c.graph.ensures.value ∙ sym c.requires.darts.angles in
    let some = some_room (length c.args.out.now) c.if-is_empty.ensures in
    let room : dart < length c.loop-dart.out = omega (arith, c.requires.room some, c.loop-dart.auto.out, c.loop-dart-test.true, end) in (
      one_written c.loop-dart.out angles c.from.result dart c.angle.result 0 c.from.ensures room (omega (arith, end, c.loop-dart-test.true))
          c.loop-dart.invariant.0 c.angle.ensures,
      drop-set-lt (length angles) c.loop-dart.out c.from.result c.angle.result (omega (arith, end, c.loop-dart-test.true, c.from.ensures)) ∙ c.loop-dart.invariant.1,
    )

pub returns-clause-held : goal.returns-clause-held
returns-clause-held c some =
    let angles = c.args.shape.now.angles in
    let end : c.darts-dart-end.result ≡ length angles = c.darts-dart-end.ensures.count ∙ ap dart_count c.graph.ensures.value ∙ sym c.requires.darts.angles in
    all_written c.loop-dart.out angles c.loop-dart.dart (omega (arith, end, c.loop-dart-test.false, c.loop-dart.auto.dart-end)) c.loop-dart.invariant.0

pub returns-clause-rest : goal.returns-clause-rest
returns-clause-rest c = record { long = c.loop-dart.auto.out; rest = c.loop-dart.invariant.1 }
