use Rattle.std.proofs.Common.{◌≡◌, ◌≤◌}
use Rattle.std.specs.Prelude.{nat_abs, slice_index_or, None}
use Rattle.common.specs.Sums.{sum_below}
use Rattle.flow_network.specs.declared.given_shape.TheConstants.{MAX_GIVEN_TURNS}
use Rattle.flow_network.specs.Given.{lefts_given}
use Rattle.flow_network.proofs.given_shape.are_few.Given as goal

abbrev pub invariant-loop-place : goal.invariant-loop-place
invariant-loop-place l = record {
  sum : l.sum ≡ sum_below l.place (λ d. nat_abs (lefts_given (slice_index_or l.turns d None)));
  few : l.sum ≤ MAX_GIVEN_TURNS;
}
