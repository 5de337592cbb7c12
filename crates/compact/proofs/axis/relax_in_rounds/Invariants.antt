use Rattle.std.proofs.Common.{◌≡◌, length, slice_index}
use Rattle.compact.specs.Constraints.{IsLow, shortfall}
use Rattle.compact.proofs.axis.relax_in_rounds.Given as goal

abbrev pub invariant-rounds : goal.invariant-rounds
invariant-rounds l = record {
  size : length l.coordinates ≡ length l.fn.coordinates;
  low : IsLow l.constraints (length l.fn.coordinates) (λ v. slice_index l.coordinates v);
}

abbrev pub decreases-rounds : goal.decreases-rounds
decreases-rounds l = shortfall l.coordinates
