use Rattle.std.proofs.Common.{◌≡◌, ◌<◌, ◌≤◌, ℕ, length}
use Rattle.compact.specs.Neighbours.{neighbour, AreUnder, StayEqual}
use Rattle.compact.proofs.longest_paths.greatest_on.Given as goal

abbrev pub invariant-loop : goal.invariant-loop
invariant-loop l = record {
  inside : l.vertex < length l.coordinates;
  equal : (y : ℕ → ℕ) → StayEqual (neighbour l.around l.left) (length l.coordinates) y → y l.first ≡ y l.vertex;
  under : (y : ℕ → ℕ) → StayEqual (neighbour l.around l.left) (length l.coordinates) y → AreUnder (length l.coordinates) l.coordinates y → l.greatest ≤ y l.first;
}
