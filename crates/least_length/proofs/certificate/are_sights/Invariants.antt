use Rattle.std.proofs.Common.{◌<◌, ℕ}
use Rattle.least_length.specs.Weights.{sight_at, IsSight}
use Rattle.least_length.proofs.certificate.are_sights.Given as goal

abbrev pub invariant-loop-sight : goal.invariant-loop-sight
invariant-loop-sight l = (i : ℕ) → i < l.sight-index → IsSight l.segments (sight_at l.sights i)
