use Rattle.std.proofs.Common.{refl, sym, ap, arith, below_more, false}
use Rattle.std.proofs.lemmas.Bool.{both_ways}
use Rattle.embedding.specs.Darts.{dart_count}
use Rattle.conditions.proofs.conditions.is_dart.Goals as goal

pub returns-then-has_ends : goal.returns-then-has_ends
returns-then-has_ends c =
    let named = c.has_ends.ensures.0 c.if-has_ends.true in (
      λ _. record {
        dart = c.loop-dart.dart;
        inside = omega (arith, c.loop-dart-test.true, c.darts-dart-end.ensures.count, ap dart_count c.graph.ensures.value);
        tail = sym named.tail;
        head = sym named.head;
      },
      λ _. refl,
    )

pub loop-dart-preserved : goal.loop-dart-preserved
loop-dart-preserved c = below_more _ _ c.loop-dart.invariant (λ named. both_ways c.has_ends.result c.if-has_ends.false (c.has_ends.ensures.1 named))

pub returns : goal.returns
returns c = (
  λ e. absurd (both_ways false refl e),
  λ found. absurd (c.loop-dart.invariant found.dart (omega (arith, found.inside, c.loop-dart-test.false, c.darts-dart-end.ensures.count, ap dart_count c.graph.ensures.value)) (record { tail = sym found.tail; head = sym found.head })),
)
