use Rattle.std.proofs.Common.{◌≡◌, ◌∙◌, ◌<◌, [], ap, arith, get_or, length, map, refl, sym}
use Rattle.std.proofs.lemmas.List.{drop-set-lt, get_or-map, length-map}
use Rattle.embedding.specs.Darts.{dart_count}
use Rattle.planarbend_c.specs.Found.{both_turns, turns_counted}
use Rattle.planarbend_c.proofs.Written.{all_written, one_written, some_room}
use Rattle.planarbend_c.proofs.lists.put_turns.Goals as goal

pub loop-dart-init : goal.loop-dart-init
loop-dart-init c = (refl, refl)

pub loop-dart-preserved : goal.loop-dart-preserved
loop-dart-preserved c =
    let dart = c.loop-dart.dart in
    let strings = c.args.shape.now.strings in
    let items = map turns_counted strings in
    let end : c.darts-dart-end.result ≡ length strings = c.darts-dart-end.ensures.count ∙ ap dart_count c.graph.ensures.value ∙ sym c.requires.darts.strings in
    let some = some_room (length c.args.out.now) c.if-is_empty.ensures in
    let room : dart < length c.loop-dart.out = omega (arith, c.requires.room some, c.loop-dart.auto.out, c.loop-dart-test.true, end) in
    let inside : dart < length strings = omega (arith, end, c.loop-dart-test.true) in
    let none = both_turns 0 0 in
    let is : c.turns_counted.result ≡ get_or items dart none =
    c.turns_counted.ensures ∙ ap turns_counted c.turns.ensures.value ∙ sym (get_or-map turns_counted strings dart [] none inside) in (
      one_written c.loop-dart.out items c.from.result dart c.turns_counted.result none c.from.ensures room
          (omega (arith, inside, length-map strings turns_counted)) c.loop-dart.invariant.0 is,
      drop-set-lt (length strings) c.loop-dart.out c.from.result c.turns_counted.result (omega (arith, end, c.loop-dart-test.true, c.from.ensures)) ∙ c.loop-dart.invariant.1,
    )

pub returns-clause-held : goal.returns-clause-held
returns-clause-held c some =
    let strings = c.args.shape.now.strings in
    let end : c.darts-dart-end.result ≡ length strings = c.darts-dart-end.ensures.count ∙ ap dart_count c.graph.ensures.value ∙ sym c.requires.darts.strings in
    all_written c.loop-dart.out (map turns_counted strings) c.loop-dart.dart
    (omega (arith, end, length-map strings turns_counted, c.loop-dart-test.false, c.loop-dart.auto.dart-end)) c.loop-dart.invariant.0

pub returns-clause-rest : goal.returns-clause-rest
returns-clause-rest c = record { long = c.loop-dart.auto.out; rest = c.loop-dart.invariant.1 }
