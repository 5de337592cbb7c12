use Rattle.std.proofs.Common.{◌<◌, ℕ}
use Rattle.least_length.specs.Lengths.{wire_at}
use Rattle.least_length.specs.Weights.{HasEnds}
use Rattle.least_length.proofs.certificate.have_ends.Given as goal

abbrev pub invariant-loop-wire : goal.invariant-loop-wire
invariant-loop-wire l = (i : ℕ) → i < l.wire-index → HasEnds l.segments (wire_at l.wires i)
