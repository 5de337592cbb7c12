use Rattle.std.proofs.Common.{◌<◌, [], length, get_or, ap, arith}
use Rattle.embedding.proofs.EachList.{yes_is, found_at}
use Rattle.embedding.proofs.breaks.breaks_degree.Goals as goal

pub returns-then-at-gt4 : goal.returns-then-at-gt4
returns-then-at-gt4 c =
    let g = c.args.lists.now in
    let long : 4 < length (get_or g c.loop-place.place []) = omega (arith, ap length c.at.ensures.value) in
    yes_is (found_at g (λ _ l. 4 < length l) c.loop-place.place long)
