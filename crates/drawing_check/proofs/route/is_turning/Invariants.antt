use Rattle.std.proofs.Common.{◌≡◌, ℕ, ◌+◌, ◌<◌, slice_index_or}
use Rattle.ortho_rep.specs.declared.turn_strings.Turn.TheVariants.{Left}
use Rattle.drawing_check.specs.Draws.{direction_of, turned}
use Rattle.drawing_check.specs.Routes.{path_of}
use Rattle.drawing_check.proofs.route.is_turning.Given as goal

abbrev pub invariant-loop-k : goal.invariant-loop-k
invariant-loop-k l = record {
  heading : l.heading ≡ direction_of (path_of l.route) l.k;
  each : (j : ℕ) → j < l.k → direction_of (path_of l.route) (j + 1) ≡ turned (slice_index_or l.turns j Left) (direction_of (path_of l.route) j);
}
