use Rattle.std.proofs.Common.{◌≡◌, ◌≤◌, ◌<◌, ◌+◌, ◌*◌, ◌^◌, ℕ, length}
use Rattle.std.specs.Prelude.{◌==◌, if◌then◌else◌, slice_index}
use Rattle.common.specs.Sums.{sum_below}
use Rattle.least_length.specs.declared.segments.TheConstants.{MAX_WIRES}
use Rattle.least_length.specs.Weights.{sight_at}
use Rattle.least_length.proofs.segments.add_sights.Given as goal

abbrev pub invariant-loop-sight : goal.invariant-loop-sight
invariant-loop-sight l = record {
  up : (r : ℕ) → r < length l.up → slice_index l.up r ≡ slice_index l.initial.up r + sum_below l.sight-index (λ i. if (sight_at l.sights i).behind == r then (sight_at l.sights i).weight else 0);
  down : (r : ℕ) → r < length l.down → slice_index l.down r ≡ slice_index l.initial.down r + sum_below l.sight-index (λ i. if (sight_at l.sights i).before == r then (sight_at l.sights i).weight else 0);
  light : (r : ℕ) → slice_index l.up r ≤ MAX_WIRES + l.sight-index * 2 ^ 32;
  slight : (r : ℕ) → slice_index l.down r ≤ MAX_WIRES + l.sight-index * 2 ^ 32;
}
