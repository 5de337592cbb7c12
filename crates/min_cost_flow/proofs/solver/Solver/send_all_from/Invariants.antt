use Rattle.std.proofs.Common.{◌≡◌, ◌<◌, ℕ, length}
use Rattle.std.specs.Prelude.{pos, ◌≤ℤ◌}
use borrow.Author.Differences.{up}
use Rattle.common.specs.Sums.{sum_below}
use Rattle.min_cost_flow.specs.Networks.{NetworkModel, node_count}
use Rattle.min_cost_flow.specs.SolverState.{IsBetweenSearches, excess_at}
use Rattle.min_cost_flow.proofs.solver.Solver.send_all_from.Given as goal

abbrev pub invariant-units : goal.invariant-units
invariant-units l = record {
  size : length l.self.nodes.excess.items ≡ length l.fn.self.nodes.excess.items;
  between_searches : (net : NetworkModel) → IsBetweenSearches net l.fn.self → IsBetweenSearches net l.self;
  done : (net : NetworkModel) → IsBetweenSearches net l.fn.self → (v : ℕ) → v < node_count net → excess_at l.fn.self v ≤ℤ pos 0 → excess_at l.self v ≤ℤ pos 0;
}

-- what is left to send
abbrev pub decreases-units : goal.decreases-units
decreases-units l = sum_below (length l.self.nodes.excess.items) (λ v. up (excess_at l.self v))
