use Rattle.std.proofs.Common.{◌≡◌, ◌≢◌, ◌<◌, ℕ, length}
use Rattle.std.specs.Prelude.{pos, ◌≤ℤ◌}
use borrow.Author.Differences.{up}
use Rattle.common.specs.Sums.{sum_below}
use Rattle.min_cost_flow.specs.Networks.{NetworkModel}
use Rattle.min_cost_flow.specs.SolverState.{IsReady, excess_at}
use Rattle.min_cost_flow.proofs.solver.Solver.resend.Given as goal

abbrev pub invariant-units : goal.invariant-units
invariant-units l = record {
  size : length l.self.nodes.excess.items ≡ length l.fn.self.nodes.excess.items;
  ready : (net : NetworkModel) → IsReady net l.fn.self → IsReady net l.self;
  others : (v : ℕ) → v < length l.self.nodes.excess.items → v ≢ l.root → excess_at l.self v ≤ℤ pos 0;
}

-- what is left to send
abbrev pub decreases-units : goal.decreases-units
decreases-units l = sum_below (length l.self.nodes.excess.items) (λ v. up (excess_at l.self v))
