use Rattle.std.proofs.Common.{◌≡◌, ◌<◌, ℕ, length}
use Rattle.min_cost_flow.specs.Overfull.{is_in, was_reached}
use Rattle.min_cost_flow.proofs.solution.marks_of_reached.Given as goal

abbrev pub invariant-loop-node : goal.invariant-loop-node
invariant-loop-node l = record {
  size : length l.marks.items ≡ l.node;
  each : (v : ℕ) → v < l.node → is_in l.marks.items v ≡ was_reached l.visits v;
}
