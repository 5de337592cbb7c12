use Rattle.std.proofs.Common.{◌≤◌, ◌<◌, ℕ}
use Rattle.least_length.specs.Lengths.{wire_at}
use Rattle.least_length.proofs.certificate.have_levels.Given as goal

abbrev pub invariant-loop-wire : goal.invariant-loop-wire
invariant-loop-wire l = (i : ℕ) → i < l.wire-index → (wire_at l.wires i).level ≤ l.top
