use Rattle.std.proofs.Common.{◌≡◌, ◌+◌, ◌*◌, ◌<◌, ℕ, length, set, slice_index, arith, refl, ap, subst}
use Rattle.std.proofs.lemmas.List.{length-set}
use Rattle.compact.specs.Neighbours.{neighbour}
use Rattle.compact.proofs.Stepping.{raised_under}
use Rattle.compact.proofs.longest_paths.place_vertex.Goals as goal

pub returns-then-to-coordinates-clause-under : goal.returns-then-to-coordinates-clause-under
returns-then-to-coordinates-clause-under c = λ y grow small under.
    raised_under c.args.coordinates.now _ _ c.args.vertex c.args.coordinate y c.requires.vertex refl small under

pub returns-clause-under : goal.returns-clause-under
returns-clause-under c = λ y grow small under.
    let around = c.args.neighbours.around.now in
    let ahead = c.args.neighbours.ahead in
    let vertex = c.args.vertex in
    let n = length c.args.coordinates.now in
    let xs = set c.args.coordinates.now vertex c.args.coordinate in
    let size = length-set c.args.coordinates.now vertex c.args.coordinate in
    let to : ℕ = slice_index around (4 * vertex + c.from.result) in
    let to_in : to < length xs = c.if-to-coordinates.false in
    let is : to ≡ neighbour around ahead vertex = ap (λ (d : ℕ). neighbour around d vertex) c.from.ensures in
    let is_in : neighbour around ahead vertex < n = omega (arith, is, to_in, size) in
    raised_under xs _ n to _ y to_in refl (omega (arith, small, grow vertex c.requires.vertex is_in, ap y is))
    (raised_under c.args.coordinates.now xs n vertex c.args.coordinate y c.requires.vertex refl small under)
