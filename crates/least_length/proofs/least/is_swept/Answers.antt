use Rattle.std.proofs.Common.{◌≡◌, true, arith, rules}
use Rattle.std.specs.Prelude.{slice_index}
use Rattle.least_length.specs.Lengths.{coordinates_in}
use Rattle.least_length.proofs.Sweeping.{swept_more, swept_keeps}
use Rattle.least_length.proofs.least.is_swept.Goals as goal

pub loop-place-preserved : goal.loop-place-preserved
loop-place-preserved c =
    let passed : c.raise_frontier.result ≡ true = search rules in
    swept_more c.args.segments.now (coordinates_in c.args.coordinates.now) (λ level. slice_index c.loop-place.frontier level) (λ level. slice_index c.raise_frontier.new.frontier level) c.loop-place.place c.loop-place.last c.loop-place.invariant (omega arith)
    (λ level h. omega (arith, c.raise_frontier.ensures.passed passed level h, c.from-in-loop-place.ensures))
    (λ level h. omega (arith, c.raise_frontier.ensures.met passed level h, c.from-in-loop-place.ensures))
    (λ level. c.raise_frontier.ensures.risen passed level)

pub returns : goal.returns
returns c _ = swept_keeps c.args.segments.now (coordinates_in c.args.coordinates.now) (λ level. slice_index c.loop-place.frontier level) c.loop-place.place c.loop-place.last c.loop-place.invariant (omega arith)
