use Rattle.std.proofs.Common.{◌≡◌, ◌≤◌, ◌<◌, ℕ}
use Rattle.std.specs.Prelude.{◌-ℤ◌, ◌≤ℤ◌, ◌<ℤ◌}
use Rattle.min_cost_flow.specs.Search.{labels, orders, potential_of}
use Rattle.min_cost_flow.proofs.dijkstra.Search.least_distance.Given as goal

abbrev pub invariant-loop-j : goal.invariant-loop-j
invariant-loop-j l = record {
  bound : l.least ≤ℤ l.self.bound;
  radius : l.self.radius ≤ℤ l.least;
  least : (j : ℕ) → l.self.ordered ≤ j → j < l.j → l.least ≤ℤ (labels l.self (orders l.self j) -ℤ potential_of l.input (orders l.self j));
  some : l.least <ℤ l.self.bound → (j : ℕ) × (l.self.ordered ≤ j) × (j < l.j) × (l.least ≡ labels l.self (orders l.self j) -ℤ potential_of l.input (orders l.self j));
}
