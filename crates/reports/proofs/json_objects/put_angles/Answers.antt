use Rattle.std.proofs.Common.{◌≡◌, ◌∙◌, ◌++◌, ◌∷◌, [], ℕ, ap, arith, length, map, nat_lt, sym, take}
use Rattle.std.proofs.lemmas.List.{map_more, take_all}
use Rattle.std.proofs.lemmas.Result.{on_ok_weaker}
use Rattle.embedding.specs.Darts.{dart_count}
use Rattle.reports.specs.LineData.{natural}
use Rattle.reports.proofs.Steps.{none_yet, one_more, some_taken, whole_array}
use Rattle.reports.proofs.json_objects.put_angles.Goals as goal

pub loop-dart-init : goal.loop-dart-init
loop-dart-init c = none_yet c.put_bytes.new.out.items

pub loop-dart-preserved : goal.loop-dart-preserved
loop-dart-preserved c =
    let dart = c.loop-dart.dart in
    let angles = c.args.shape.now.angles in
    let end : c.darts-dart-end.result ≡ length angles = c.darts-dart-end.ensures.count ∙ ap dart_count c.graph.ensures.value ∙ sym c.requires.angles in
    one_more c.put_bytes.new.out.items c.loop-dart.out.items c.put_natural.new.out.items (map natural (take dart angles)) _ _ (nat_lt 0 dart) c.loop-dart.invariant c.in_ok-put_natural.ensures (some_taken natural dart angles (omega arith)) (
    ap (λ (angle : ℕ). map natural (take dart angles) ++ natural angle ∷ []) (c.from.ensures ∙ c.angle.ensures)
    ∙ sym (map_more natural angles dart 0 (omega arith)))

pub returns : goal.returns
returns c =
    let angles = c.args.shape.now.angles in
    let end : c.darts-dart-end.result ≡ length angles = c.darts-dart-end.ensures.count ∙ ap dart_count c.graph.ensures.value ∙ sym c.requires.angles in
    on_ok_weaker c.put_bytes-2.result (λ last. whole_array natural angles (take c.loop-dart.dart angles) c.args.out.now.items c.put_bytes.new.out.items c.loop-dart.out.items c.put_bytes-2.new.out.items c.in_ok-put_bytes.ensures c.loop-dart.invariant
    (take_all c.loop-dart.dart angles (omega arith)) last) c.put_bytes-2.ensures
