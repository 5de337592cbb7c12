use Rattle.std.proofs.Common.{length}
use Rattle.least_length.specs.Searching.{ArePairs}
use Rattle.least_length.proofs.pulling.drop_distant.Given as goal

abbrev pub invariant-loop-pair : goal.invariant-loop-pair
invariant-loop-pair l = ArePairs (length l.coordinates) l.sights
