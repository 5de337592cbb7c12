use Rattle.std.proofs.Common.{w32, ◌≡◌, length, ap, arith}
use Rattle.std.specs.Prelude.{nat_abs, Some}
use Rattle.std.proofs.lemmas.Bool.{eqb-true, eq-eqb}
use Rattle.std.proofs.lemmas.Int.{ints, to_z-of_z}
use mir.Val.{SFits}
use Rattle.flow_network.proofs.GivenParts.{left_part}
use Rattle.ortho_rep.specs.Turns.{lefts}
use Rattle.ortho_rep.proofs.GivenFlow.{lefts_one_way, one_way_by_counts, left_part_right, left_part_left}
use Rattle.ortho_rep.proofs.certificate.are_one_way.Goals as goal

pub returns-then-lefts-lt0 : goal.returns-then-lefts-lt0
returns-then-lefts-lt0 c =
    let turns = c.args.turns.now in
    let fits : SFits w32 c.args.lefts = c.ranges.lefts in
    let count = simp to_z-of_z at c.unsigned_abs-count.ensures.value in
    let long : length turns ≡ nat_abs c.args.lefts = omega (arith, c.if-turns-count.false, count) in
    let right : left_part (Some c.args.lefts) ≡ 0 = left_part_right c.args.lefts (omega (arith, ints, c.if-lefts-lt0.true)) in (
      λ t. one_way_by_counts c.args.lefts turns long (omega (arith, right, c.count_lefts-made.ensures.count, eqb-true c.count_lefts-made.result 0 t)),
      λ e. eq-eqb c.count_lefts-made.result 0 (omega (arith, right, c.count_lefts-made.ensures.count, ap lefts e, lefts_one_way c.args.lefts)),
    )

pub returns-else-lefts-lt0 : goal.returns-else-lefts-lt0
returns-else-lefts-lt0 c =
    let turns = c.args.turns.now in
    let fits : SFits w32 c.args.lefts = c.ranges.lefts in
    let count = simp to_z-of_z at c.unsigned_abs-count.ensures.value in
    let long : length turns ≡ nat_abs c.args.lefts = omega (arith, c.if-turns-count.false, count) in
    let left : left_part (Some c.args.lefts) ≡ nat_abs c.args.lefts = left_part_left c.args.lefts (omega (arith, ints, c.if-lefts-lt0.false)) in (
      λ t. one_way_by_counts c.args.lefts turns long (omega (arith, left, count, c.count_lefts-made.ensures.count, eqb-true c.count_lefts-made.result c.unsigned_abs-count.result t)),
      λ e. eq-eqb c.count_lefts-made.result c.unsigned_abs-count.result (omega (arith, left, count, c.count_lefts-made.ensures.count, ap lefts e, lefts_one_way c.args.lefts)),
    )
