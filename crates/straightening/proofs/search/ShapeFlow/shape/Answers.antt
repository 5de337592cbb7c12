use Rattle.std.proofs.Common.{◌∷◌, [], arith}
use Rattle.std.proofs.lemmas.List.{length-append}
use Rattle.ortho_rep.proofs.OneSided.{repeats-more}
use Rattle.straightening.proofs.search.ShapeFlow.shape.Goals as goal

pub loop-dart-preserved : goal.loop-dart-preserved
loop-dart-preserved c =
    let found = c.loop-dart.found.items in
    rw c.in_ok-push.ensures.items record {
      count = omega (arith, length-append found (c.dart_shape.result ∷ []), c.loop-dart.invariant.count);
      short = repeats-more found c.dart_shape.result c.loop-dart.invariant.short c.dart_shape.ensures;
    }
