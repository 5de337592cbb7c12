use Rattle.std.proofs.Common.{rules, arith}
use Rattle.ruled_lanes.proofs.Deals.{deals}
use Rattle.ruled_lanes.proofs.tickets.Tickets.draw.Goals as goal

pub fetch_add-found-requires : goal.fetch_add-found-requires
fetch_add-found-requires c = (c.requires.seat.0, omega arith, deals _ _ _ _ (omega arith) (omega arith) c.args.seat.now.one_share (search rules))
