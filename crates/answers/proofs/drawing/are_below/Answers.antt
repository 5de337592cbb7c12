use Rattle.std.proofs.Common.{[], refl, arith}
use Rattle.std.proofs.lemmas.List.{get_or_default}
use Rattle.answers.proofs.drawing.are_below.Goals as goal

pub returns : goal.returns
returns c =
    let lists = c.args.points.now.corners in (
      λ _. record {
        ends = rw (← c.vertices.ensures) (c.all_below.ensures.0 c.if-not-all_below.false);
        bends = λ k d lt. rw (get_or_default lists k d [] lt) (c.loop-edge.invariant k (omega (arith, lt, c.requires, c.loop-edge-test.false)));
      },
      λ _. refl,
    )
