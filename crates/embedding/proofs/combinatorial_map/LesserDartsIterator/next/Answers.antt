use Rattle.std.proofs.Common.{◌≡◌, [], List, ℕ, length, sym, ap, subst, ◌∙◌, arith}
use Rattle.embedding.specs.Lesser.{lesser_darts_from}
use Rattle.embedding.proofs.Lesser.{lesser_past, lesser_away, lesser_next}
use Rattle.embedding.proofs.combinatorial_map.LesserDartsIterator.next.Goals as goal

pub returns-then-dart-reverse-clause-steps : goal.returns-then-dart-reverse-clause-steps
returns-then-dart-reverse-clause-steps c =
    lesser_next c.self.inside.graph.now _ _ c.self.inside.from c.loop-dart.dart c.self.view_is c.loop-dart.invariant.left c.loop-dart.invariant.same (omega (arith, c.darts-dart-end.ensures.count, c.loop-dart-test.true)) (omega (arith, c.reverse.ensures.value, c.if-dart-reverse.true))

pub returns-then-dart-reverse-clause-goes : goal.returns-then-dart-reverse-clause-goes
returns-then-dart-reverse-clause-goes c =
    let found = lesser_next c.self.inside.graph.now _ _ c.self.inside.from c.loop-dart.dart c.self.view_is c.loop-dart.invariant.left c.loop-dart.invariant.same (omega (arith, c.darts-dart-end.ensures.count, c.loop-dart-test.true)) (omega (arith, c.reverse.ensures.value, c.if-dart-reverse.true)) in
    record { on = λ finite. (_, _, omega (arith, ap length found)); keeps = _; rests = _ }

pub loop-dart-preserved : goal.loop-dart-preserved
loop-dart-preserved c = record {
  same = c.loop-dart.invariant.same;
  left = c.loop-dart.invariant.left
      ∙ lesser_away c.self.inside.graph.now c.loop-dart.dart (omega (arith, c.darts-dart-end.ensures.count, c.loop-dart-test.true)) (omega (arith, c.reverse.ensures.value, c.if-dart-reverse.false));
}

pub returns-clause-steps : goal.returns-clause-steps
returns-clause-steps c =
    let g = c.self.inside.graph.now in
    let past = lesser_past g c.loop-dart.dart (omega (arith, c.darts-dart-end.ensures.count, c.loop-dart-test.false)) in
    let last = lesser_past g c.darts-self-inside.result (omega (arith, c.darts-self-inside.ensures.count)) in (
      sym c.self.view_is ∙ c.loop-dart.invariant.left ∙ past,
      subst (λ (h : List (List ℕ)). lesser_darts_from h c.darts-self-inside.result ≡ []) (sym c.loop-dart.invariant.same) last,
    )
