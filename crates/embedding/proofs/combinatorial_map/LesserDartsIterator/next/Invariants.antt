use Rattle.std.proofs.Common.{◌≡◌}
use Rattle.embedding.specs.Lesser.{lesser_darts_from}
use Rattle.embedding.proofs.combinatorial_map.LesserDartsIterator.next.Given as goal

-- no lesser dart was passed by
abbrev pub invariant-loop-dart : goal.invariant-loop-dart
invariant-loop-dart l = record {
  same : l.self-inside.graph.now ≡ l.graph;
  left : lesser_darts_from l.graph l.initial.self-inside.from ≡ lesser_darts_from l.graph l.dart;
}
