use Rattle.std.proofs.Common.{◌≡◌, ◌-◌, length, take}
use Rattle.ortho_rep.specs.Turns.{mirrored}
use Rattle.referee.proofs.shape.mirror.Given as goal

abbrev pub invariant-loop-k : goal.invariant-loop-k
invariant-loop-k l = l.back.items ≡ take l.k (mirrored l.turns)
