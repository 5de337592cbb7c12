use Rattle.std.proofs.Common.{◌≡◌, ◌≤◌, ◌*◌}
use Rattle.std.specs.Prelude.{slice_index}
use Rattle.common.specs.Sums.{sum_below}
use Rattle.ortho_rep.proofs.distances.sum_of.Given as goal

abbrev pub invariant-loop-place : goal.invariant-loop-place
invariant-loop-place l = record {
  sum : l.sum ≡ sum_below l.place (slice_index l.list);
  few : l.sum ≤ 65535 * l.place;
}
