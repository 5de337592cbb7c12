use Rattle.std.proofs.Common.{◌<◌, ℕ}
use Rattle.std.specs.Prelude.{pos, ◌≤ℤ◌}
use Rattle.min_cost_flow.specs.SolverState.{IsBetweenSearches, excess_at}
use Rattle.min_cost_flow.proofs.solver.Solver.solve.Given as goal

abbrev pub invariant-loop-root : goal.invariant-loop-root
invariant-loop-root l = record {
  between_searches : IsBetweenSearches l.network l.self;
  done : (v : ℕ) → v < l.root → excess_at l.self v ≤ℤ pos 0;
}
