use Rattle.std.specs.Prelude.{slice_index}
use Rattle.least_length.specs.Lengths.{coordinates_in}
use Rattle.least_length.proofs.Sweeping.{IsSwept}
use Rattle.least_length.proofs.least.is_swept.Given as goal

abbrev pub invariant-loop-place : goal.invariant-loop-place
invariant-loop-place l = IsSwept l.segments (coordinates_in l.coordinates) (λ level. slice_index l.frontier level) l.place l.last
