use Rattle.std.proofs.Common.{rules}
use Rattle.geometry.proofs.Frontiers.{MovesPast-part}
use Rattle.geometry.proofs.plane_sweep.move_past.Goals as goal

pub returns-clause-passes : goal.returns-clause-passes
returns-clause-passes c =
    MovesPast-part _ _ c.args.new c.requires.filled c.requires.low (rw c.from.ensures at c.if-is_beyond.ensures.within) (rw c.from-2.ensures at c.fill.ensures.after (λ y same. search rules))
