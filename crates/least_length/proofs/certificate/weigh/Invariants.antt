use Rattle.std.proofs.Common.{◌≡◌, ◌≤◌, ◌*◌, ◌^◌}
use Rattle.common.specs.Sums.{sum_below}
use Rattle.least_length.specs.Weights.{sight_at}
use Rattle.least_length.proofs.certificate.weigh.Given as goal

abbrev pub invariant-loop-sight : goal.invariant-loop-sight
invariant-loop-sight l = record {
  sum : l.total ≡ sum_below l.sight-index (λ i. (sight_at l.sights i).weight);
  bound : l.total ≤ l.sight-index * 2 ^ 32;
}
