use Rattle.std.proofs.Common.{◌<◌, length}
use Rattle.least_length.specs.Searching.{ArePairs}
use Rattle.least_length.proofs.pulling.shift.Given as goal

abbrev pub invariant-loop : goal.invariant-loop
invariant-loop l = record {
  segment : l.segment < length l.marks;
  pairs : ArePairs (length l.marks) l.sights;
}
