use Rattle.std.proofs.Common.{sym, ap, arith, below_more}
use Rattle.std.proofs.lemmas.Bool.{both_ways}
use Rattle.embedding.specs.Darts.{dart_count}
use Rattle.conditions.proofs.conditions.dart_of.Goals as goal

pub returns-then-has_ends-clause-named : goal.returns-then-has_ends-clause-named
returns-then-has_ends-clause-named c = c.has_ends.ensures.0 c.if-has_ends.true

pub loop-dart-preserved : goal.loop-dart-preserved
loop-dart-preserved c = below_more _ _ c.loop-dart.invariant (λ named. both_ways c.has_ends.result c.if-has_ends.false (c.has_ends.ensures.1 named))

pub unreachable-requires : goal.unreachable-requires
unreachable-requires c =
    let found = c.requires in
    c.loop-dart.invariant found.dart (omega (arith, found.inside, c.loop-dart-test.false, c.darts-dart-end.ensures.count, ap dart_count c.graph.ensures.value)) (record { tail = sym found.tail; head = sym found.head })
