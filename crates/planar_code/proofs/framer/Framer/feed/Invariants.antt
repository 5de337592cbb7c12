use Rattle.std.proofs.Common.{length}
use Rattle.planar_code.specs.Step.{HasRead}
use Rattle.planar_code.proofs.framer.Framer.feed.Given as goal

abbrev pub invariant-loop-text : goal.invariant-loop-text
invariant-loop-text l = HasRead l.fn.self l.fn.piece l.text l.fn.out.items l.out.items l.self

abbrev pub decreases-loop-text : goal.decreases-loop-text
decreases-loop-text l = length l.text
