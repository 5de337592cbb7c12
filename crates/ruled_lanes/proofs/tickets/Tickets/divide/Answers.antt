use Rattle.std.proofs.Common.{ap, arith}
use Rattle.ruled_lanes.proofs.Deals.{splits}
use Rattle.ruled_lanes.proofs.tickets.Tickets.divide.Goals as goal

pub split_seat-requires : goal.split_seat-requires
split_seat-requires c =
    let me = c.loop-lane.invariant.me in
    let shares = ap (λ m. m.0.shares) me in
    let ends = ap (λ m. m.0.ends) me in
    (c.loop-lane.invariant.table, c.requires.words, splits _ _ _ (omega arith) (omega arith))
