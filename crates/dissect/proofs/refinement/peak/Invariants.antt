use Rattle.std.proofs.Common.{map, slice_index}
use Rattle.dissect.proofs.Climbing.{IsClimb}
use Rattle.dissect.proofs.refinement.peak.Given as goal

abbrev pub invariant-corners : goal.invariant-corners
invariant-corners l = IsClimb (map (λ a. slice_index l.angle a) l.ring) l.at l.best l.behind
