use Rattle.std.proofs.Common.{◌≡◌, ◌+◌, ◌*◌, ◌<◌, ℕ, length, slice_index, arith, refl, ap, subst}
use Rattle.compact.specs.Neighbours.{neighbour}
use Rattle.compact.proofs.longest_paths.greatest_on.Goals as goal

pub loop-init : goal.loop-init
loop-init c = record {
  inside = c.requires.first;
  equal = λ y equal. refl;
  under = λ y equal under. under c.args.first c.requires.first;
}

pub loop-preserved : goal.loop-preserved
loop-preserved c =
    let vertex = c.loop.vertex in
    let around = c.args.around.now in
    let n = length c.args.coordinates.now in
    let inside = c.loop.invariant.inside in
    let next : ℕ = slice_index around (4 * vertex + c.from.result) in
    let next_in : next < n = c.if-next-coordinates.false in
    let is : next ≡ neighbour around c.args.left vertex = ap (λ (d : ℕ). neighbour around d vertex) c.from.ensures in
    let is_in : neighbour around c.args.left vertex < n = subst (λ (k : ℕ). k < n) is next_in in
    record {
      inside = next_in;
      equal = λ y equal. omega (arith, c.loop.invariant.equal y equal, equal vertex inside is_in, ap y is);
      under = λ y equal under.
          omega (arith, c.loop.invariant.equal y equal, equal vertex inside is_in, ap y is, c.loop.invariant.under y equal under, under next next_in);
    }
