use Rattle.std.proofs.Common.{◌≡◌, ◌+◌, ℕ, length, get_or, subst, ap, ◌∙◌, arith}
use Rattle.embedding.specs.Walk.{IsTraced, at, next_in}
use Rattle.embedding.proofs.Tracing.{pass_over, all_faces}
use Rattle.embedding.proofs.genus.number_faces.Goals as goal
use Rattle.embedding.proofs.genus.number_faces.Goals.{then-faces-from, else-faces-from}

pub loop-dart-preserved : goal.loop-dart-preserved
loop-dart-preserved c =
    let traced = c.loop-dart.invariant.traced in
    let size = c.loop-dart.invariant.size in
    elim c.if-faces-from.branch [
      | then-faces-from w ↦ record {
        size = ap length w.faces-is ∙ omega (arith, size);
        traced = rw (w.faces-is, w.count-is) (subst (λ (n : ℕ). IsTraced n (next_in c.args.rotation.now) (at w.walk_face.new.faces) (c.loop-dart.count + 1) (c.loop-dart.dart + 1)) size w.walk_face.ensures);
      }
      | else-faces-from w ↦
          let same = ap (λ i. get_or c.loop-dart.faces i 0) c.from.ensures in
          record {
            size = ap length w.faces-is ∙ size;
            traced = rw (w.faces-is, w.count-is) (pass_over _ _ _ _ _ traced (omega arith) (λ e. w.if-faces-from.false (same ∙ e)));
          }
    ]

pub returns-clause-numbered : goal.returns-clause-numbered
returns-clause-numbered c =
    let all : c.loop-dart.dart ≡ length c.args.faces.now = omega arith in
    all_faces _ _ _ _ (subst (λ (d : ℕ). IsTraced (length c.args.faces.now) (next_in c.args.rotation.now) (at c.loop-dart.faces) c.loop-dart.count d) all c.loop-dart.invariant.traced)
