use Rattle.std.proofs.Common.{◌≤◌, length}
use Rattle.visibility.proofs.segments.Segments.levels_reached.Given as goal

abbrev pub invariant-loop : goal.invariant-loop
invariant-loop l = l.named ≤ length l.segments
