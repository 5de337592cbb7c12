use Rattle.std.proofs.Common.{◌∙◌, ◌++◌, ◌∷◌, [], List, ap, arith, map, nat_lt, sym, take}
use Rattle.std.proofs.lemmas.List.{map_more, take_all}
use Rattle.std.proofs.lemmas.Result.{on_ok_weaker}
use Rattle.ortho_rep.specs.declared.turn_strings.Turn.{Turn}
use Rattle.reports.specs.LineData.{turns_data}
use Rattle.reports.proofs.Steps.{none_yet, one_more, some_taken, whole_array}
use Rattle.reports.proofs.json_objects.put_turns.Goals as goal

pub loop-dart-init : goal.loop-dart-init
loop-dart-init c = none_yet c.put_bytes.new.out.items

pub loop-dart-preserved : goal.loop-dart-preserved
loop-dart-preserved c =
    let dart = c.loop-dart.dart in
    let strings = c.args.shape.now.strings in
    let before = map turns_data (take dart strings) in
    one_more c.put_bytes.new.out.items c.loop-dart.out.items c.put_string.new.out.items before _ _ (nat_lt 0 dart) c.loop-dart.invariant c.in_ok-put_string.ensures (some_taken turns_data dart strings (omega arith)) (
    ap (λ (turns : List Turn). before ++ turns_data turns ∷ []) c.turns.ensures.value
    ∙ sym (map_more turns_data strings dart [] (omega arith)))

pub returns : goal.returns
returns c =
    let strings = c.args.shape.now.strings in
    on_ok_weaker c.put_bytes-2.result (λ last. whole_array turns_data strings (take c.loop-dart.dart strings) c.args.out.now.items c.put_bytes.new.out.items c.loop-dart.out.items c.put_bytes-2.new.out.items c.in_ok-put_bytes.ensures c.loop-dart.invariant
    (take_all c.loop-dart.dart strings (omega arith)) last) c.put_bytes-2.ensures
