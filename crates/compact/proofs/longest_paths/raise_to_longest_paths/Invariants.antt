use Rattle.std.proofs.Common.{◌≡◌, length}
use Rattle.compact.specs.Neighbours.{neighbour, StayUnder}
use Rattle.compact.proofs.longest_paths.raise_to_longest_paths.Given as goal

abbrev pub invariant-loop : goal.invariant-loop
invariant-loop l = record {
  under : StayUnder (length l.fn.coordinates) (neighbour l.neighbours.around.now l.neighbours.ahead) (neighbour l.neighbours.around.now l.neighbours.left) l.fn.coordinates l.coordinates;
  count : length l.coordinates ≡ length l.fn.coordinates;
}
