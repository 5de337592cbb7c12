use Rattle.std.proofs.Common.{arith}
use Rattle.conditions.proofs.Greatest.{so_far_named}
use Rattle.conditions.proofs.chosen.greatest_open.Goals as goal

pub greater-best-requires-clause-best : goal.greater-best-requires-clause-best
greater-best-requires-clause-best c =
    so_far_named c.args.plane.now c.args.barred.now c.loop-face.face c.loop-face.best (omega (arith, c.loop-face-test.true, c.face_count-face-end.ensures.value)) c.loop-face.invariant
