use Rattle.std.proofs.Common.{◌≡◌, ◌+◌, arith, ap, rules, ◌∙◌}
use mir.Syntax.{w32}
use mir.Val.{SFits, of_z, to_z}
use Rattle.std.specs.Prelude.{nat_abs, slice_index_or, None}
use Rattle.std.proofs.lemmas.Int.{ints}
use Rattle.common.proofs.Sums.{sum_below-more}
use Rattle.flow_network.specs.Given.{lefts_given}
use Rattle.flow_network.proofs.GivenParts.{some_places}
use Rattle.flow_network.proofs.given_shape.are_few.Goals as goal

pub returns-then-sum : goal.returns-then-sum
returns-then-sum c =
    let turns = c.args.turns.now in
    let place = c.loop-place.place in
    let fits : SFits w32 c.lefts.result = search rules in
    let same : to_z w32 (of_z w32 c.lefts.result) ≡ c.lefts.result = omega (arith, ints) in
    let own : nat_abs (to_z w32 (of_z w32 c.lefts.result)) ≡ nat_abs (lefts_given (slice_index_or turns place None)) = ap nat_abs (same ∙ c.lefts.ensures) in
    let more = sum_below-more place (λ d. nat_abs (lefts_given (slice_index_or turns d None))) in (
      λ f. search rules,
      λ few. absurd (omega (arith, few, own, more, some_places turns (place + 1), c.loop-place.invariant.sum, c.unsigned_abs-sum.ensures.value, c.if-sum.true)),
    )
