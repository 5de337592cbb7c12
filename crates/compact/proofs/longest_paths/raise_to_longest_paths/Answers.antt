use Rattle.std.proofs.Common.{ℕ, ◌∙◌, refl, subst}
use Rattle.compact.specs.Neighbours.{neighbour, StayUnder}
use Rattle.compact.proofs.longest_paths.raise_to_longest_paths.Goals as goal

pub loop-init : goal.loop-init
loop-init c = record {
  under = λ y grow equal under. under;
  count = refl;
}

pub loop-preserved : goal.loop-preserved
loop-preserved c =
    let ahead = neighbour c.args.neighbours.around.now c.args.neighbours.ahead in
    let left = neighbour c.args.neighbours.around.now c.args.neighbours.left in
    record {
      under = λ y grow equal under.
          subst (λ (n : ℕ). StayUnder n ahead left c.loop.coordinates c.place_segment.new.coordinates) c.loop.invariant.count c.place_segment.ensures.under
          y grow equal (c.loop.invariant.under y grow equal under);
      count = c.place_segment.ensures.count ∙ c.loop.invariant.count;
    }
