use Rattle.std.proofs.Common.{◌≡◌, ◌≤◌, ◌<◌, ◌⊎◌, ℕ}
use Rattle.std.specs.Prelude.{◌-ℤ◌}
use Rattle.min_cost_flow.specs.Search.{IsReordered, labels, orders, potential_of}
use Rattle.min_cost_flow.proofs.dijkstra.Search.raise_radius.Given as goal

abbrev pub invariant-loop-j : goal.invariant-loop-j
invariant-loop-j l = record {
  ordered : IsReordered l.input l.initial.self l.self;
  radius : l.self.radius ≡ l.initial.self.radius;
  few : l.self.ordered ≤ l.j;
  behind : (i : ℕ) → l.j ≤ i → orders l.self i ≡ orders l.initial.self i;
  more : (l.self.scanned < l.self.ordered) ⊎ ((i : ℕ) × (l.j ≤ i) × (i < l.self.reached) × (l.self.radius ≡ labels l.initial.self (orders l.initial.self i) -ℤ potential_of l.input (orders l.initial.self i)));
}
