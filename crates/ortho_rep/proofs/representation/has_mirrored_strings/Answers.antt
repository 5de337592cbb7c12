use Rattle.std.proofs.Common.{ℕ, List, ap, ◌∙◌, sym, below_more}
use Rattle.embedding.specs.Darts.{reverse_of}
use Rattle.ortho_rep.specs.Shapes.{turns_at}
use Rattle.ortho_rep.specs.Turns.{mirrored}
use Rattle.ortho_rep.proofs.representation.has_mirrored_strings.Goals as goal

pub loop-dart-preserved : goal.loop-dart-preserved
loop-dart-preserved c =
    let mirrors = c.mirrors.ensures.0 c.if-not-mirrors.false in
    let reverse_dart = c.reverse-reverse.ensures.value ∙ ap (λ (g : List (List ℕ)). reverse_of g c.loop-dart.dart) c.graph-in-loop-dart.ensures.value in
    let one = c.turns-in-loop-dart.ensures.value ∙ ap (turns_at c.args.shape.now) reverse_dart in
    below_more _ _ c.loop-dart.invariant (sym one ∙ mirrors ∙ ap mirrored c.turns.ensures.value)
