use Rattle.std.proofs.Common.{refl}
use Rattle.std.specs.Prelude.{pos, slice_index_or}
use Rattle.min_cost_flow.specs.Networks.{raised}
use Rattle.min_cost_flow.proofs.Moving.{raised_low, raised_high, sum_is, difference_is}
use Rattle.min_cost_flow.proofs.network.move_units.Goals as goal

pub returns : goal.returns
returns c =
    let us = c.args.units.now in
    let f = c.args.from in
    let t = c.args.to in
    let k = c.args.amount in
    let r = c.requires in
    rw (sum_is (slice_index_or us f (pos 0)) k (r.low f r.from) (r.high f r.from) r.few, difference_is (slice_index_or (raised us f k) t (pos 0)) k (raised_low us f k t r.from (r.low t r.to)) (raised_high us f k t r.from r.few (r.high t r.to)) r.few) refl
