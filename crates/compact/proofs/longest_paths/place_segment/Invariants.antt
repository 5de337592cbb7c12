use Rattle.std.proofs.Common.{◌≡◌, ◌<◌, ℕ, length}
use Rattle.compact.specs.Neighbours.{neighbour, StayEqual, StayUnder}
use Rattle.compact.proofs.longest_paths.place_segment.Given as goal

abbrev pub invariant-loop : goal.invariant-loop
invariant-loop l = record {
  under : StayUnder (length l.fn.coordinates) (neighbour l.neighbours.around.now l.neighbours.ahead) (neighbour l.neighbours.around.now l.neighbours.left) l.fn.coordinates l.coordinates;
  equal : (y : ℕ → ℕ) → StayEqual (neighbour l.neighbours.around.now l.neighbours.left) (length l.fn.coordinates) y → y l.first ≡ y l.vertex;
  count : length l.coordinates ≡ length l.fn.coordinates;
  inside : l.vertex < length l.fn.coordinates;
}
