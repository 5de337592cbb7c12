use Rattle.std.proofs.Common.{◌≡◌, ◌+◌, ◌*◌, ◌<◌, ◌≤◌, ◌∙◌, ℕ, length, slice_index, arith, refl, ap, subst}
use Rattle.compact.specs.Neighbours.{neighbour, AreUnder, Grow}
use Rattle.compact.proofs.longest_paths.place_segment.Goals as goal

pub loop-init : goal.loop-init
loop-init c = record {
  under = λ y grow equal under. under;
  equal = λ y equal. refl;
  count = refl;
  inside = c.requires.first;
}

pub loop-preserved : goal.loop-preserved
loop-preserved c =
    let vertex = c.loop.vertex in
    let around = c.args.neighbours.around.now in
    let ahead = neighbour around c.args.neighbours.ahead in
    let n = length c.args.coordinates.now in
    let count = c.loop.invariant.count in
    let next : ℕ = slice_index around (4 * vertex + c.from.result) in
    let next_in : next < n = omega (arith, c.if-next-coordinates.false, c.place_vertex.ensures.count, count) in
    let is : next ≡ neighbour around c.args.neighbours.left vertex = ap (λ (d : ℕ). neighbour around d vertex) c.from.ensures in
    let is_in : neighbour around c.args.neighbours.left vertex < n = subst (λ (k : ℕ). k < n) is next_in in
    record {
      under = λ y grow equal under.
          let small : c.greatest_on-greatest.result ≤ y vertex = omega (arith, c.greatest_on-greatest.ensures y equal under, c.loop.invariant.equal y equal) in
          let placed : Grow ahead n y → AreUnder n c.loop.coordinates y → AreUnder n c.place_vertex.new.coordinates y =
          subst (λ (m : ℕ). Grow ahead m y → AreUnder m c.loop.coordinates y → AreUnder m c.place_vertex.new.coordinates y) count (λ grow under. c.place_vertex.ensures.under y grow small under) in
          placed grow (c.loop.invariant.under y grow equal under);
      equal = λ y equal. omega (arith, c.loop.invariant.equal y equal, equal vertex c.loop.invariant.inside is_in, ap y is);
      count = c.place_vertex.ensures.count ∙ count;
      inside = next_in;
    }

pub returns-then-next-coordinates-clause-under : goal.returns-then-next-coordinates-clause-under
returns-then-next-coordinates-clause-under c = λ y grow equal under.
    let ahead = neighbour c.args.neighbours.around.now c.args.neighbours.ahead in
    let small : c.greatest_on-greatest.result ≤ y c.loop.vertex = omega (arith, c.greatest_on-greatest.ensures y equal under, c.loop.invariant.equal y equal) in
    let placed : Grow ahead (length c.args.coordinates.now) y → AreUnder (length c.args.coordinates.now) c.loop.coordinates y → AreUnder (length c.args.coordinates.now) c.place_vertex.new.coordinates y =
    subst (λ (m : ℕ). Grow ahead m y → AreUnder m c.loop.coordinates y → AreUnder m c.place_vertex.new.coordinates y) c.loop.invariant.count (λ grow under. c.place_vertex.ensures.under y grow small under) in
    placed grow (c.loop.invariant.under y grow equal under)
