use Rattle.std.proofs.Common.{◌≡◌, ℕ, ◌+◌, ◌<◌, length, slice_index_or}
use Rattle.ortho_rep.specs.declared.turn_strings.Turn.TheVariants.{Left}
use Rattle.drawing_check.specs.Draws.{direction_of, turned}
use Rattle.drawing_check.specs.Routes.{path_of}
use Rattle.referee.proofs.shape.turns_along.Given as goal

abbrev pub invariant-loop-corner : goal.invariant-loop-corner
invariant-loop-corner l = record {
  count : length l.turns.items ≡ l.corner;
  heading : l.heading ≡ direction_of (path_of l.route) l.corner;
  each : (j : ℕ) → j < l.corner → direction_of (path_of l.route) (j + 1) ≡ turned (slice_index_or l.turns.items j Left) (direction_of (path_of l.route) j);
}
